-- The rows of a part whose entries are all live are those of its file.
use Rattle.std.proofs.Common.{◌≡◌, ℕ, zero, suc, ◌+◌, ◌<◌, Bool, true, false, cond, List, [], ◌∷◌, ◌++◌, length, get_or, take, refl, sym, ap, subst, ◌∙◌, arith}
use Rattle.std.specs.Prelude.{◌&&◌, nat_le, nat_lt, map, slice_get, Some}
use Rattle.std.specs.List.{list_all}
use Rattle.std.proofs.lemmas.Bool.{ltb-true}
use Rattle.std.proofs.lemmas.List.Concat.{flat_map-cons}
use Rattle.java_tree.specs.declared.index.IndexEntry.{IndexEntry}
use Rattle.java_tree.specs.declared.index.Row.{Row}
use Rattle.java_tree.specs.Keys.{is_before, is_word}
use Rattle.java_model.specs.IndexFile.Content.{Posting, row_of, rows_of, are_entries_after, are_numbers_from, are_postings_after}
use Rattle.java_model.proofs.IndexFile.Tests.{and_left, and_right}
use Rattle.disk_index.specs.Part.{Part, IsWhole, live_rows}
use Rattle.disk_index.specs.Written.{HasContent}

-- ---- entries

entry_next : (entries : List IndexEntry) (at : ℕ) (path : List ℕ) (stamp : ℕ)
    → slice_get (map (λ e. e.path) entries) at ≡ Some path → slice_get (map (λ e. e.stamp) entries) at ≡ Some stamp
    → take at entries ++ record { path = path; stamp = stamp } ∷ [] ≡ take (suc at) entries
entry_next [] at path stamp p s = absurd cc
entry_next (entry ∷ entries) zero path stamp p s = ap (λ (e : IndexEntry). e ∷ []) (same entry path stamp p s)
  where
    same : (entry : IndexEntry) (path : List ℕ) (stamp : ℕ) → Some entry.path ≡ Some path → Some entry.stamp ≡ Some stamp
        → record { path = path; stamp = stamp } ≡ entry
    same entry path stamp p s =
        let a : path ≡ entry.path = cc in
        let b : stamp ≡ entry.stamp = cc in
        λ i. record { path = a i; stamp = b i }
entry_next (entry ∷ entries) (suc at) path stamp p s = ap (λ (l : List IndexEntry). entry ∷ l) (entry_next entries at path stamp p s)

pub entries_go_on : (entries old : List IndexEntry) (at : ℕ) (text path : List ℕ) (stamp : ℕ) → old ≡ take at entries → text ≡ path
    → slice_get (map (λ e. e.path) entries) at ≡ Some path → slice_get (map (λ e. e.stamp) entries) at ≡ Some stamp
    → old ++ record { path = text; stamp = stamp } ∷ [] ≡ take (at + 1) entries
entries_go_on entries old at text path stamp so_far copied p s =
    let next : suc at ≡ at + 1 = omega arith in
    (λ i. so_far i ++ record { path = copied i; stamp = stamp } ∷ []) ∙ entry_next entries at path stamp p s ∙ ap (λ (n : ℕ). take n entries) next

-- ---- rows

abbrev AreLive : List Bool → ℕ → Type 0
AreLive live range = (k : ℕ) → k < range → get_or live k false ≡ true

all_live : (live : List Bool) → list_all (λ b. b) live ≡ true → AreLive live (length live)
all_live [] all k less = absurd (omega arith)
all_live (b ∷ live) all zero less = and_left b (list_all (λ c. c) live) all
all_live (b ∷ live) all (suc k) less = all_live live (and_right b (list_all (λ c. c) live) all) k (omega arith)

live-append : (live : List Bool) (xs ys : List Row) → live_rows live (xs ++ ys) ≡ live_rows live xs ++ live_rows live ys
live-append live [] ys = refl
live-append live (x ∷ xs) ys =
    by_test (get_or live x.entry false) x (live_rows live (xs ++ ys)) (live_rows live xs) (live_rows live ys) (live-append live xs ys)
  where
    by_test : (b : Bool) (x : Row) (all front rest : List Row) → all ≡ front ++ rest → cond b (x ∷ all) all ≡ cond b (x ∷ front) front ++ rest
    by_test true x all front rest e = ap (λ (t : List Row). x ∷ t) e
    by_test false x all front rest e = e

entry_of : (word : List ℕ) (number : ℕ) → (row_of word number).entry ≡ number
entry_of [] number = refl
entry_of (b ∷ text) number = refl

live_numbers : (live : List Bool) (range low : ℕ) (word numbers : List ℕ) → AreLive live range → are_numbers_from range low numbers ≡ true
    → live_rows live (map (row_of word) numbers) ≡ map (row_of word) numbers
live_numbers live range low word [] held legal = refl
live_numbers live range low word (number ∷ numbers) held legal =
    let front = and_left (nat_le low number && nat_lt number range) (are_numbers_from range (suc number) numbers) legal in
    let rest = and_right (nat_le low number && nat_lt number range) (are_numbers_from range (suc number) numbers) legal in
    let less : number < range = ltb-true number range (and_right (nat_le low number) (nat_lt number range) front) in
    kept (get_or live (row_of word number).entry false) (ap (λ (n : ℕ). get_or live n false) (entry_of word number) ∙ held number less)
    (live_rows live (map (row_of word) numbers)) (live_numbers live range (suc number) word numbers held rest)
  where
    kept : (b : Bool) → b ≡ true → (rows : List Row) → rows ≡ map (row_of word) numbers
        → cond b (row_of word number ∷ rows) rows ≡ row_of word number ∷ map (row_of word) numbers
    kept true is rows e = ap (λ (t : List Row). row_of word number ∷ t) e
    kept false is rows e = absurd cc

live_postings : (live : List Bool) (range : ℕ) (previous : List ℕ) (postings : List Posting) → AreLive live range
    → are_postings_after range previous postings ≡ true → live_rows live (rows_of postings) ≡ rows_of postings
live_postings live range previous [] held legal = refl
live_postings live range previous (posting ∷ postings) held legal =
    let before = is_before previous posting.word in
    let key = is_word posting.word in
    let some = nat_le 1 (length posting.numbers) in
    let numbers = are_numbers_from range 0 posting.numbers in
    let front = and_left (before && key && some && numbers) (are_postings_after range posting.word postings) legal in
    let rest = and_right (before && key && some && numbers) (are_postings_after range posting.word postings) legal in
    let here = map (row_of posting.word) posting.numbers in
    let split = flat_map-cons (λ (p : Posting). map (row_of p.word) p.numbers) posting postings in
    let first = live_numbers live range 0 posting.word posting.numbers held (and_right (before && key && some) numbers front) in
    let others = live_postings live range posting.word postings held rest in
    ap (live_rows live) split ∙ live-append live here (rows_of postings) ∙ (λ i. first i ++ others i) ∙ sym split

-- what is taken from a part with a file's content is that content
pub whole_content : (bytes : List ℕ) (part : Part) (entries : List IndexEntry) (rows : List Row) → IsWhole bytes part
    → entries ≡ part.entries → rows ≡ live_rows part.live part.rows → HasContent entries rows
whole_content bytes part entries rows whole entries-are rows-are =
    let file = whole.file in
    let postings = file.0 in
    let have = file.1 in
    let held : AreLive part.live (length part.entries) = subst (AreLive part.live) whole.long (all_live part.live whole.live) in (
      postings,
      ap (λ (e : List IndexEntry). are_entries_after [] e) entries-are ∙ have.entries_rise,
      ap (λ (e : List IndexEntry). are_postings_after (length e) [] postings) entries-are ∙ have.postings_rise,
      rows-are ∙ ap (live_rows part.live) file.2 ∙ live_postings part.live (length part.entries) [] postings held have.postings_rise,
    )
