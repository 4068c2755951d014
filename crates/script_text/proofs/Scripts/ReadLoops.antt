-- Reading lines one after the other, as the loops do.
use Rattle.std.proofs.Common.{◌≡◌, ℕ, zero, suc, ◌-◌, ◌+◌, ◌≤◌, ◌<◌, true, false, List, [], ◌∷◌, ◌++◌, length, Option, Some, None, refl, sym, ap, ◌∙◌, append_assoc, arith}
use Rattle.std.specs.Prelude.{nat_eq, codes}
use Rattle.std.specs.List.{starts_with}
use Rattle.std.proofs.lemmas.List.{append-nil}
use Rattle.java_model.specs.Documents.{Document}
use Rattle.script_text.specs.declared.script.Search.{Search}
use Rattle.script_text.specs.declared.fault.ScriptFault.{ScriptFault}
use Rattle.script_text.specs.declared.fault.ScriptFault.TheVariants as faults
use Rattle.script_text.specs.Inner.Reading.{◌>>=◌, Fails, doc_at, docs_at, search_at, searches_at}

-- what was read before, and what is still read
abbrev pub with_docs : List Document → Option (List Document × List ℕ) → Option (List Document × List ℕ)
with_docs front read = read >>= λ x. Some (front ++ x.0, x.1)

with_docs-cons : (front : List Document) (doc : Document) (read : Option (List Document × List ℕ)) → with_docs front (read >>= λ x. Some (doc ∷ x.0, x.1)) ≡ with_docs (front ++ doc ∷ []) read
with_docs-cons front doc (Some x) = ap (λ (docs : List Document). Some (docs, x.1)) (simp append_assoc)
with_docs-cons front doc None = refl

-- a loop's step, at a line that is read
pub docs_go_on : (front : List Document) (count i : ℕ) (bytes : List ℕ) (doc : Document) (after : List ℕ) (total : Option (List Document × List ℕ)) → i < count
    → starts_with nat_eq bytes (codes "doc ") ≡ true → doc_at bytes ≡ Some (doc, after)
    → with_docs front (docs_at (count - i) bytes) ≡ total → with_docs (front ++ doc ∷ []) (docs_at (count - (i + 1)) after) ≡ total
unfolding docs_at
docs_go_on front count i bytes doc after total lt begins read so_far =
    let k : count - i ≡ suc (count - (i + 1)) = omega arith in
    let one : with_docs front (docs_at (count - i) bytes) ≡ with_docs (front ++ doc ∷ []) (docs_at (count - (i + 1)) after) = rw (k, begins, read) (with_docs-cons front doc (docs_at (count - (i + 1)) after)) in
    sym one ∙ so_far

-- at a line that isn't read
pub docs_fail : (e : ScriptFault) (front : List Document) (count i : ℕ) (bytes : List ℕ) (total : Option (List Document × List ℕ)) → i < count
    → starts_with nat_eq bytes (codes "doc ") ≡ true → Fails e (doc_at bytes) → with_docs front (docs_at (count - i) bytes) ≡ total → Fails e total
unfolding docs_at
docs_fail faults.NoMemory front count i bytes total lt begins read so_far = tt
docs_fail faults.NotBuilt front count i bytes total lt begins read so_far =
    let k : count - i ≡ suc (count - (i + 1)) = omega arith in
    let one : with_docs front (docs_at (count - i) bytes) ≡ None = rw (k, begins, read) refl in
    sym so_far ∙ one

-- behind the last line
pub docs_end : (front : List Document) (count i : ℕ) (bytes : List ℕ) (total : Option (List Document × List ℕ)) → i < count
    → starts_with nat_eq bytes (codes "doc ") ≡ false → with_docs front (docs_at (count - i) bytes) ≡ total → total ≡ Some (front, bytes)
unfolding docs_at
docs_end front count i bytes total lt begins so_far =
    let k : count - i ≡ suc (count - (i + 1)) = omega arith in
    let one : with_docs front (docs_at (count - i) bytes) ≡ Some (front, bytes) = rw (k, begins) (ap (λ (docs : List Document). Some (docs, bytes)) (append-nil front)) in
    sym so_far ∙ one

-- as many as there may be
pub docs_stop : (front : List Document) (count i : ℕ) (bytes : List ℕ) (total : Option (List Document × List ℕ)) → count ≤ i → with_docs front (docs_at (count - i) bytes) ≡ total → total ≡ Some (front, bytes)
unfolding docs_at
docs_stop front count i bytes total le so_far =
    let k : count - i ≡ 0 = omega arith in
    let one : with_docs front (docs_at (count - i) bytes) ≡ Some (front, bytes) = rw k (ap (λ (docs : List Document). Some (docs, bytes)) (append-nil front)) in
    sym so_far ∙ one

abbrev pub with_searches : List Search → Option (List Search) → Option (List Search)
with_searches front read = read >>= λ x. Some (front ++ x)

with_searches-cons : (front : List Search) (search : Search) (read : Option (List Search)) → with_searches front (read >>= λ x. Some (search ∷ x)) ≡ with_searches (front ++ search ∷ []) read
with_searches-cons front search (Some x) = ap Some (simp append_assoc)
with_searches-cons front search None = refl

pub searches_go_on : (front : List Search) (count i line : ℕ) (bytes : List ℕ) (search : Search) (after : List ℕ) (total : Option (List Search)) → i < count
    → 0 < length bytes → search_at line bytes ≡ Some (search, after)
    → with_searches front (searches_at (count - i) line bytes) ≡ total → with_searches (front ++ search ∷ []) (searches_at (count - (i + 1)) (line + 1) after) ≡ total
unfolding searches_at
searches_go_on front count i line [] search after total lt some read so_far = absurd (omega arith)
searches_go_on front count i line (b ∷ bytes) search after total lt some read so_far =
    let k : count - i ≡ suc (count - (i + 1)) = omega arith in
    let one : with_searches front (searches_at (count - i) line (b ∷ bytes)) ≡ with_searches (front ++ search ∷ []) (searches_at (count - (i + 1)) (line + 1) after) = rw (k, read) (with_searches-cons front search (searches_at (count - (i + 1)) (line + 1) after)) in
    sym one ∙ so_far

pub searches_fail : (e : ScriptFault) (front : List Search) (count i line : ℕ) (bytes : List ℕ) (total : Option (List Search)) → i < count
    → 0 < length bytes → Fails e (search_at line bytes) → with_searches front (searches_at (count - i) line bytes) ≡ total → Fails e total
unfolding searches_at
searches_fail faults.NoMemory front count i line bytes total lt some read so_far = tt
searches_fail faults.NotBuilt front count i line [] total lt some read so_far = absurd (omega arith)
searches_fail faults.NotBuilt front count i line (b ∷ bytes) total lt some read so_far =
    let k : count - i ≡ suc (count - (i + 1)) = omega arith in
    let one : with_searches front (searches_at (count - i) line (b ∷ bytes)) ≡ None = rw (k, read) refl in
    sym so_far ∙ one

pub searches_end : (front : List Search) (n line : ℕ) (bytes : List ℕ) (total : Option (List Search)) → length bytes ≡ 0 → with_searches front (searches_at n line bytes) ≡ total → total ≡ Some front
unfolding searches_at
searches_end front zero line [] total none so_far = sym so_far ∙ ap Some (append-nil front)
searches_end front (suc n) line [] total none so_far = sym so_far ∙ ap Some (append-nil front)
searches_end front n line (b ∷ bytes) total none so_far = absurd (omega arith)

pub searches_stop : (front : List Search) (count i line : ℕ) (bytes : List ℕ) (total : Option (List Search)) → count ≤ i → 0 < length bytes → with_searches front (searches_at (count - i) line bytes) ≡ total → total ≡ None
unfolding searches_at
searches_stop front count i line [] total le some so_far = absurd (omega arith)
searches_stop front count i line (b ∷ bytes) total le some so_far =
    let k : count - i ≡ 0 = omega arith in
    let one : with_searches front (searches_at (count - i) line (b ∷ bytes)) ≡ None = rw k refl in
    sym so_far ∙ one
