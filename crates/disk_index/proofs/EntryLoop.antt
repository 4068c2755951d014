-- Reading entries one after the other, as a loop does.
use Rattle.std.proofs.Common.{◌≡◌, ℕ, zero, suc, ◌+◌, ◌-◌, ◌<◌, ◌≤◌, List, [], ◌∷◌, ◌++◌, length, drop, get_or, Some, None, Result, Ok, Err, refl, sym, ap, ◌∙◌, append_assoc, arith}
use Rattle.std.specs.Prelude.{map, ◌&&◌, true, slice_get}
use Rattle.std.proofs.lemmas.List.{append-nil, map_push}
use Rattle.java_tree.specs.declared.index.IndexEntry.{IndexEntry}
use Rattle.java_model.specs.IndexFile.Content.{is_path_after}
use Rattle.java_model.specs.IndexFile.Spelling.{entry_bytes}
use Rattle.java_model.specs.IndexFile.Reading.{◌>>=◌, entry_at, entries_at}
use Rattle.java_model.proofs.IndexFile.Fields.{IsBytes}
use Rattle.java_model.proofs.IndexFile.Tests.{and_left, and_right, and_both}
use Rattle.java_model.proofs.IndexFile.Entries.{FitsAfter, entry_takes, entry_again}
use Rattle.java_tree.specs.Keys.{is_before}
use Rattle.java_tree.specs.Names.{is_source_path}
use Rattle.std.specs.Str.{is_utf8}
use Rattle.disk_index.specs.declared.fault.ReadFault.{ReadFault}
use Rattle.disk_index.specs.declared.fault.ReadFault.TheVariants as faults
use Rattle.disk_index.specs.Reads.{Fails, IsLeft, EndsWith, entry_here, found, Shows}
use Rattle.disk_index.proofs.Ends.{EndsWith-drop, EndsWith-bytes, EndsWith-takes}

abbrev pub with_front : List IndexEntry → Result (List IndexEntry × List ℕ) ℕ → Result (List IndexEntry × List ℕ) ℕ
with_front front read = read >>= λ x. Ok (front ++ x.0, x.1)

-- what a loop over entries keeps
pub record SoFar (file start : List ℕ) (count left : ℕ) (previous rest places : List ℕ) : Type 0 where
  pub before : List IndexEntry
  pub ends : EndsWith file rest
  pub shown : Shows file places before
  pub same : with_front before (entries_at previous left rest) ≡ entries_at [] count start

front_none : (r : Result (List IndexEntry × List ℕ) ℕ) → with_front [] r ≡ r
front_none (Ok x) = refl
front_none (Err e) = refl

regroup : (front : List IndexEntry) (n : IndexEntry) (r : Result (List IndexEntry × List ℕ) ℕ) → with_front front (r >>= λ x. Ok (n ∷ x.0, x.1)) ≡ with_front (front ++ n ∷ []) r
regroup front n (Ok x) = ap (λ (ns : List IndexEntry). Ok (ns, x.1)) (simp append_assoc)
regroup front n (Err f) = refl

pub begins : (file start : List ℕ) (count : ℕ) → EndsWith file start → SoFar file start count count [] start []
begins file start count ends = record { before = []; ends = ends; shown = refl; same = front_none (entries_at [] count start) }

-- an entry that comes after another one also stands alone
stands_alone : (previous bytes : List ℕ) (x : IndexEntry × List ℕ) → IsBytes bytes → entry_at previous bytes ≡ Ok x → entry_here bytes ≡ found x.0
stands_alone previous bytes x fits e =
    let t = entry_takes previous bytes x fits e in
    let alone : FitsAfter [] x.0 = record { path = first previous x.0.path t.1.path; stamp = t.1.stamp } in
    ap entry_here t.0.parts ∙ rw (entry_again [] x.0 x.1 alone) refl
  where
    first : (previous path : List ℕ) → is_path_after previous path ≡ true → is_path_after [] path ≡ true
    first previous [] e = absurd cc
    first previous (b ∷ path) e =
        let rest = and_right (is_before previous (b ∷ path)) (is_utf8 (b ∷ path)) (and_left (is_before previous (b ∷ path) && is_utf8 (b ∷ path)) (is_source_path (b ∷ path)) e) in
        and_both (is_utf8 (b ∷ path)) (is_source_path (b ∷ path)) rest (and_right (is_before previous (b ∷ path) && is_utf8 (b ∷ path)) (is_source_path (b ∷ path)) e)

pub goes_on : (file start : List ℕ) (count i : ℕ) (previous rest places : List ℕ) (entry : IndexEntry) (after : List ℕ) → IsBytes file → i < count → entry_at previous rest ≡ Ok (entry, after)
    → SoFar file start count (count - i) previous rest places → SoFar file start count (count - (i + 1)) entry.path after (places ++ (length file - length rest) ∷ [])
unfolding entries_at
goes_on file start count i previous rest places entry after fits lt e so_far =
    let k : count - i ≡ suc (count - (i + 1)) = omega arith in
    let one : with_front so_far.before (entries_at previous (count - i) rest) ≡ with_front (so_far.before ++ entry ∷ []) (entries_at entry.path (count - (i + 1)) after) =
    rw (k, e) (regroup so_far.before entry (entries_at entry.path (count - (i + 1)) after)) in
    let bytes : IsBytes rest = EndsWith-bytes file rest so_far.ends fits in
    let takes = entry_takes previous rest (entry, after) bytes e in
    let here : entry_here (drop (length file - length rest) file) ≡ found entry = ap entry_here (EndsWith-drop file rest so_far.ends) ∙ stands_alone previous rest (entry, after) bytes e in
    record {
      before = so_far.before ++ entry ∷ [];
      ends = EndsWith-takes file rest (entry_bytes entry) after so_far.ends takes.0;
      shown = map_push (λ place. entry_here (drop place file)) places (length file - length rest)
          ∙ (λ j. so_far.shown j ++ here j ∷ [])
          ∙ sym (map_push found so_far.before entry);
      same = sym one ∙ so_far.same;
    }

pub fails : (e : ReadFault) (file start : List ℕ) (count i : ℕ) (previous rest places : List ℕ) → i < count → Fails e (entry_at previous rest) → SoFar file start count (count - i) previous rest places → Fails e (entries_at [] count start)
unfolding entries_at
fails faults.Memory file start count i previous rest places lt h so_far = tt
fails (faults.Left left) file start count i previous rest places lt h so_far =
    let k : count - i ≡ suc (count - (i + 1)) = omega arith in
    let one : with_front so_far.before (entries_at previous (count - i) rest) ≡ Err left = rw (k, h) refl in
    sym so_far.same ∙ one

pub is_done : (file start : List ℕ) (count i : ℕ) (previous rest places : List ℕ) → count ≤ i → (so_far : SoFar file start count (count - i) previous rest places) → entries_at [] count start ≡ Ok (so_far.before, rest)
unfolding entries_at
is_done file start count i previous rest places le so_far =
    let k : count - i ≡ 0 = omega arith in
    let one : with_front so_far.before (entries_at previous (count - i) rest) ≡ Ok (so_far.before, rest) = rw k (ap (λ (ns : List IndexEntry). Ok (ns, rest)) (append-nil so_far.before)) in
    sym so_far.same ∙ one

-- ---- an entry at a place of a table

pub here_at : (bytes : List ℕ) (entry : IndexEntry) (rest : List ℕ) → entry_at [] bytes ≡ Ok (entry, rest) → entry_here bytes ≡ found entry
here_at bytes entry rest e = rw e refl

missing_at : (bytes : List ℕ) (left : ℕ) → entry_at [] bytes ≡ Err left → entry_here bytes ≡ Err left
missing_at bytes left e = rw e refl

pub shown_at : (file places : List ℕ) (entries : List IndexEntry) (at : ℕ) (entry : IndexEntry) → Shows file places entries → at < length places → entry_here (drop (get_or places at 0) file) ≡ found entry → Some entry ≡ slice_get entries at
shown_at file [] entries at entry s lt e = absurd (omega arith)
shown_at file (place ∷ places) [] at entry s lt e = absurd cc
shown_at file (place ∷ places) (first ∷ entries) zero entry s lt e = head_is (entry_here (drop place file)) first entry (map (λ p. entry_here (drop p file)) places) (map found entries) s e
  where
    head_is : (r : Result IndexEntry ℕ) (first entry : IndexEntry) (xs ys : List (Result IndexEntry ℕ)) → r ∷ xs ≡ found first ∷ ys → r ≡ found entry → Some entry ≡ Some first
    head_is r first entry xs ys s e = cc
shown_at file (place ∷ places) (first ∷ entries) (suc at) entry s lt e =
    shown_at file places entries at entry (tail_is (entry_here (drop place file)) (found first) (map (λ p. entry_here (drop p file)) places) (map found entries) s) (omega arith) e
  where
    tail_is : (a b : Result IndexEntry ℕ) (xs ys : List (Result IndexEntry ℕ)) → a ∷ xs ≡ b ∷ ys → xs ≡ ys
    tail_is a b xs ys s = cc

pub shown_past : (file places : List ℕ) (entries : List IndexEntry) (at : ℕ) → Shows file places entries → length places ≤ at → None ≡ slice_get entries at
shown_past file [] [] at s le = refl
shown_past file [] (entry ∷ entries) at s le = absurd cc
shown_past file (place ∷ places) [] at s le = absurd cc
shown_past file (place ∷ places) (entry ∷ entries) zero s le = absurd (omega arith)
shown_past file (place ∷ places) (entry ∷ entries) (suc at) s le = shown_past file places entries at (tail_is (entry_here (drop place file)) (found entry) (map (λ p. entry_here (drop p file)) places) (map found entries) s) (omega arith)
  where
    tail_is : (a b : Result IndexEntry ℕ) (xs ys : List (Result IndexEntry ℕ)) → a ∷ xs ≡ b ∷ ys → xs ≡ ys
    tail_is a b xs ys s = cc

pub never_missing : (file places : List ℕ) (entries : List IndexEntry) (at left : ℕ) → Shows file places entries → at < length places → entry_here (drop (get_or places at 0) file) ≡ Err left → ⊥
never_missing file [] entries at left s lt e = omega arith
never_missing file (place ∷ places) [] at left s lt e = cc
never_missing file (place ∷ places) (first ∷ entries) zero left s lt e = head_is (entry_here (drop place file)) first (map (λ p. entry_here (drop p file)) places) (map found entries) left s e
  where
    head_is : (r : Result IndexEntry ℕ) (first : IndexEntry) (xs ys : List (Result IndexEntry ℕ)) (left : ℕ) → r ∷ xs ≡ found first ∷ ys → r ≡ Err left → ⊥
    head_is r first xs ys left s e = cc
never_missing file (place ∷ places) (first ∷ entries) (suc at) left s lt e =
    never_missing file places entries at left (tail_is (entry_here (drop place file)) (found first) (map (λ p. entry_here (drop p file)) places) (map found entries) s) (omega arith) e
  where
    tail_is : (a b : Result IndexEntry ℕ) (xs ys : List (Result IndexEntry ℕ)) → a ∷ xs ≡ b ∷ ys → xs ≡ ys
    tail_is a b xs ys s = cc

pub path_is_text : (bytes : List ℕ) (entry : IndexEntry) (rest : List ℕ) → IsBytes bytes → entry_at [] bytes ≡ Ok (entry, rest) → is_utf8 entry.path ≡ true
path_is_text bytes entry rest fits e =
    let t = entry_takes [] bytes (entry, rest) fits e in
    and_right (is_before [] entry.path) (is_utf8 entry.path) (and_left (is_before [] entry.path && is_utf8 entry.path) (is_source_path entry.path) t.1.path)

pub none_at : (e : ReadFault) (file places : List ℕ) (entries : List IndexEntry) (at : ℕ) → Shows file places entries → at < length places → IsLeft e → Fails e (entry_at [] (drop (get_or places at 0) file)) → None ≡ slice_get entries at
none_at faults.Memory file places entries at s lt told failed = absurd told
none_at (faults.Left left) file places entries at s lt told failed = absurd (never_missing file places entries at left s lt (missing_at (drop (get_or places at 0) file) left failed))
