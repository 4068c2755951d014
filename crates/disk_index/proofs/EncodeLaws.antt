-- How the spelling of a content grows word by word, and what a short file says of its fields.
use Rattle.std.proofs.Common.{◌≡◌, ℕ, zero, suc, ◌+◌, ◌^◌, ◌<◌, ◌≤◌, Bool, true, false, cond, List, [], ◌∷◌, ◌++◌, length, drop, slice_index, refl, sym, ap, ◌∙◌, append_assoc, length-append, arith}
use Rattle.std.specs.Prelude.{map, nat_lt, ◌==◌}
use Rattle.std.specs.List.{list_all}
use Rattle.std.proofs.lemmas.Bool.{lt-ltb}
use Rattle.std.proofs.lemmas.List.{append-nil}
use Rattle.std.proofs.Math.ListN.{drop_of_length-le}
use Rattle.java_model.specs.IndexFile.Content.{Posting}
use Rattle.java_model.specs.IndexFile.Spelling.{common, shared, next_place, posting_bytes, postings_bytes, block_offsets}
use Rattle.java_model.specs.IndexFile.Reading.{with_start}
use Rattle.java_model.proofs.IndexFile.Tests.{and_both}
use Rattle.disk_index.specs.Written.{place_after, last_word, Spells}
use Rattle.disk_index.specs.declared.spelled.SpelledWords.{SpelledWords}

pub place_after-snoc : (place : ℕ) (postings : List Posting) (posting : Posting) → place_after place (postings ++ posting ∷ []) ≡ next_place (place_after place postings)
place_after-snoc place [] posting = refl
place_after-snoc place (first ∷ postings) posting = place_after-snoc (next_place place) postings posting

pub last_word-snoc : (previous : List ℕ) (postings : List Posting) (posting : Posting) → last_word previous (postings ++ posting ∷ []) ≡ posting.word
last_word-snoc previous [] posting = refl
last_word-snoc previous (first ∷ postings) posting = last_word-snoc first.word postings posting

pub bytes-snoc : (place : ℕ) (previous : List ℕ) (postings : List Posting) (posting : Posting)
    → postings_bytes place previous (postings ++ posting ∷ []) ≡ postings_bytes place previous postings ++ posting_bytes (place_after place postings) (last_word previous postings) posting
bytes-snoc place previous [] posting = append-nil (posting_bytes place previous posting)
bytes-snoc place previous (first ∷ postings) posting =
    ap (λ (t : List ℕ). posting_bytes place previous first ++ t) (bytes-snoc (next_place place) first.word postings posting)
    ∙ sym (append_assoc (posting_bytes place previous first) (postings_bytes (next_place place) first.word postings) (posting_bytes (place_after (next_place place) postings) (last_word first.word postings) posting))

-- the offsets of words, the first of which is at this place
offsets-cons : (at place : ℕ) (previous : List ℕ) (posting : Posting) (postings : List Posting)
    → block_offsets at place previous (posting ∷ postings) ≡ with_start place at (block_offsets (at + length (posting_bytes place previous posting)) (next_place place) posting.word postings)
offsets-cons at zero previous posting postings = refl
offsets-cons at (suc place) previous posting postings = refl

start_first : (place left : ℕ) (starts : List ℕ) → with_start place left starts ≡ with_start place left [] ++ starts
start_first zero left starts = refl
start_first (suc place) left starts = refl

pub offsets-snoc : (at place : ℕ) (previous : List ℕ) (postings : List Posting) (posting : Posting)
    → block_offsets at place previous (postings ++ posting ∷ []) ≡ block_offsets at place previous postings ++ with_start (place_after place postings) (at + length (postings_bytes place previous postings)) []
offsets-snoc at place previous [] posting =
    offsets-cons at place previous posting [] ∙ ap (λ (n : ℕ). with_start place n []) (omega arith)
offsets-snoc at place previous (first ∷ postings) posting =
    let here = at + length (posting_bytes place previous first) in
    let rest = postings_bytes (next_place place) first.word postings in
    let sum : here + length rest ≡ at + length (posting_bytes place previous first ++ rest) = omega (arith, length-append (posting_bytes place previous first) rest) in
    offsets-cons at place previous first (postings ++ posting ∷ [])
    ∙ ap (with_start place at) (offsets-snoc here (next_place place) first.word postings posting)
    ∙ start_first place at (block_offsets here (next_place place) first.word postings ++ with_start (place_after (next_place place) postings) (here + length rest) [])
    ∙ sym (append_assoc (with_start place at []) (block_offsets here (next_place place) first.word postings) (with_start (place_after (next_place place) postings) (here + length rest) []))
    ∙ ap (λ (t : List ℕ). t ++ with_start (place_after (next_place place) postings) (here + length rest) []) (sym (start_first place at (block_offsets here (next_place place) first.word postings)) ∙ sym (offsets-cons at place previous first postings))
    ∙ ap (λ (n : ℕ). block_offsets at place previous (first ∷ postings) ++ with_start (place_after (next_place place) postings) n []) sum

pub offsets_moved : (base : ℕ) (postings : List Posting) (at place : ℕ) (previous : List ℕ) → block_offsets (base + at) place previous postings ≡ map (λ start. base + start) (block_offsets at place previous postings)
offsets_moved base [] at place previous = refl
offsets_moved base (posting ∷ postings) at zero previous =
    let long = length (posting_bytes zero previous posting) in
    let sum : base + at + long ≡ base + (at + long) = omega arith in
    ap (λ (t : List ℕ). (base + at) ∷ t) (ap (λ (n : ℕ). block_offsets n 1 posting.word postings) sum ∙ offsets_moved base postings (at + long) 1 posting.word)
offsets_moved base (posting ∷ postings) at (suc place) previous =
    let long = length (posting_bytes (suc place) previous posting) in
    let sum : base + at + long ≡ base + (at + long) = omega arith in
    ap (λ (n : ℕ). block_offsets n (next_place (suc place)) posting.word postings) sum ∙ offsets_moved base postings (at + long) (next_place (suc place)) posting.word

-- a block begins where the words end or before
pub start_below : (postings : List Posting) (at place : ℕ) (previous : List ℕ) (k : ℕ) → k < length (block_offsets at place previous postings)
    → slice_index (block_offsets at place previous postings) k ≤ at + length (postings_bytes place previous postings)
start_below [] at place previous k lt = absurd (omega arith)
start_below (posting ∷ postings) at zero previous zero lt = omega arith
start_below (posting ∷ postings) at zero previous (suc k) lt =
    omega (arith, start_below postings (at + length (posting_bytes zero previous posting)) 1 posting.word k (omega arith), length-append (posting_bytes zero previous posting) (postings_bytes 1 posting.word postings))
start_below (posting ∷ postings) at (suc place) previous k lt =
    omega (arith, start_below postings (at + length (posting_bytes (suc place) previous posting)) (next_place (suc place)) posting.word k lt, length-append (posting_bytes (suc place) previous posting) (postings_bytes (next_place (suc place)) posting.word postings))

pub all_below : (offsets : List ℕ) → ((k : ℕ) → k < length offsets → slice_index offsets k < 2 ^ 32) → list_all (λ offset. nat_lt offset (2 ^ 32)) offsets ≡ true
all_below [] below = refl
all_below (offset ∷ offsets) below =
    and_both (nat_lt offset (2 ^ 32)) (list_all (λ o. nat_lt o (2 ^ 32)) offsets) (lt-ltb offset (2 ^ 32) (below 0 (omega arith)))
    (all_below offsets (λ k lt. below (suc k) (omega arith)))

-- ---- one more word

-- what is spelled with one more word
pub spells_more : (words new : SpelledWords) (before : List Posting) (posting : Posting) → new.bytes.items ≡ words.bytes.items ++ posting_bytes words.place words.last.items posting
    → new.starts.items ≡ words.starts.items ++ with_start words.place (length words.bytes.items) [] → new.count ≡ words.count + 1 → new.place ≡ next_place words.place → new.last.items ≡ posting.word
    → Spells words before → Spells new (before ++ posting ∷ [])
spells_more words new before posting bytes starts count place last spelled =
    record {
      bytes = bytes ∙ (λ i. spelled.bytes i ++ posting_bytes (spelled.place i) (spelled.last i) posting) ∙ sym (bytes-snoc 0 [] before posting);
      starts = starts ∙ (λ i. spelled.starts i ++ with_start (spelled.place i) (length (spelled.bytes i)) []) ∙ ap (λ (n : ℕ). block_offsets 0 0 [] before ++ with_start (place_after 0 before) n []) (omega arith) ∙ sym (offsets-snoc 0 0 [] before posting);
      count = omega (arith, count, spelled.count, length-append before (posting ∷ []));
      place = place ∙ ap next_place spelled.place ∙ sym (place_after-snoc 0 before posting);
      last = last ∙ sym (last_word-snoc [] before posting);
    }

-- ---- what words share

pub common_none : (xs : List ℕ) → common xs [] ≡ 0
common_none [] = refl
common_none (x ∷ xs) = refl

pub common_within : (xs ys : List ℕ) → (common xs ys ≤ length xs) × (common xs ys ≤ length ys)
common_within [] ys = (omega arith, omega arith)
common_within (x ∷ xs) [] = (omega arith, omega arith)
common_within (x ∷ xs) (y ∷ ys) = by_test (x == y) (common xs ys) xs ys (common_within xs ys)
  where
    by_test : (b : Bool) (n : ℕ) (xs ys : List ℕ) → (n ≤ length xs) × (n ≤ length ys) → (cond b (suc n) 0 ≤ suc (length xs)) × (cond b (suc n) 0 ≤ suc (length ys))
    by_test true n xs ys h = (omega (arith, h.0), omega (arith, h.1))
    by_test false n xs ys h = (omega arith, omega arith)

pub shared_within : (place : ℕ) (previous word : List ℕ) → (shared place previous word ≤ length previous) × (shared place previous word ≤ length word)
shared_within zero previous word = (omega arith, omega arith)
shared_within (suc place) previous word = common_within previous word

pub common_ends : (left right : List ℕ) (at all : ℕ) → length right ≤ at → at + common (drop at left) (drop at right) ≡ all → at ≡ all
common_ends left right at all le e =
    let none : drop at right ≡ [] = drop_of_length-le right le in
    let zero_left : common (drop at left) (drop at right) ≡ 0 = ap (common (drop at left)) none ∙ common_none (drop at left) in
    omega (arith, zero_left, e)
