-- The rows of one word after the other.
use Rattle.std.proofs.Common.{◌≡◌, ℕ, suc, ◌+◌, ◌<◌, ◌≤◌, Bool, true, false, cond, List, [], ◌∷◌, ◌++◌, length, length-drop, get_or, take, drop, refl, sym, ap, subst, ◌∙◌, append_assoc, arith}
use Rattle.std.specs.Prelude.{map, nat_le, nat_lt, nat_eq, ◌&&◌, ◌||◌, ◌==◌, take_while}
use Rattle.std.specs.Str.{bytes_eq}
use Rattle.std.specs.Cmp.Lexicographic.{same_text}
use Rattle.std.proofs.lemmas.Bool.{leb-true}
use Rattle.std.proofs.lemmas.List.{append-nil, take_at, drop_at}
use Rattle.std.proofs.lemmas.List.Concat.{flat_map-cons}
use Rattle.std.specs.List.{prefix_len}
use Rattle.java_tree.specs.Keys.{is_before, is_word}
use Rattle.java_tree.specs.declared.index.Row.{Row}
use Rattle.java_model.specs.IndexFile.Content.{Posting, row_of, rows_of, are_numbers_from, are_postings_after}
use Rattle.java_model.proofs.IndexFile.Laws.{row_word-row_of}
use Rattle.java_model.proofs.IndexFile.Tests.{and_left, and_right}
use Rattle.disk_index.specs.declared.spelled.SpelledWords.{SpelledWords}
use Rattle.disk_index.specs.Written.{row_word, same_word, posting_of, last_word, Spells}
use Rattle.disk_index.proofs.EncodeLaws.{last_word-snoc}

-- ---- words that follow

pub record Follows (range : ℕ) (previous : List ℕ) (posting : Posting) (postings : List Posting) : Type 0 where
  pub before : is_before previous posting.word ≡ true
  pub key : is_word posting.word ≡ true
  pub some : 1 ≤ length posting.numbers
  pub rest : are_postings_after range posting.word postings ≡ true

pub follows : (range : ℕ) (previous : List ℕ) (posting : Posting) (postings : List Posting) → are_postings_after range previous (posting ∷ postings) ≡ true → Follows range previous posting postings
follows range previous posting postings legal =
    let before = is_before previous posting.word in
    let key = is_word posting.word in
    let some = nat_le 1 (length posting.numbers) in
    let numbers = are_numbers_from range 0 posting.numbers in
    let l4 = and_left (before && key && some && numbers) (are_postings_after range posting.word postings) legal in
    let l3 = and_left (before && key && some) numbers l4 in
    let l2 = and_left (before && key) some l3 in
    record {
      before = and_left before key l2;
      key = and_right before key l2;
      some = leb-true 1 (length posting.numbers) (and_right (before && key) some l3);
      rest = and_right (before && key && some && numbers) (are_postings_after range posting.word postings) legal;
    }

same_bytes : (word : List ℕ) → bytes_eq word word ≡ true
same_bytes [] = refl
same_bytes (b ∷ word) = let e : nat_eq b b ≡ true = grind arith in rw e (same_bytes word)

not_before_itself : (word : List ℕ) → is_before word word ≡ true → ⊥
not_before_itself [] e = cc
not_before_itself (b ∷ word) e = not_before_itself word (later b (is_before word word) e)
  where
    later : (b : ℕ) (c : Bool) → (nat_lt b b || (b == b && c)) ≡ true → c ≡ true
    later b true e = refl
    later b false e = grind arith

other_word : (word next : List ℕ) → is_before word next ≡ true → bytes_eq word next ≡ false
other_word word next before =
    elim (bytes_eq word next) as (λ b. bytes_eq word next ≡ b → b ≡ false) [
      | true ↦ λ e. absurd (not_before_itself word (subst (λ (w : List ℕ). is_before word w ≡ true) (sym (same_text word next (sym e))) before))
      | false ↦ λ e. refl
    ] refl

-- ---- the rows of one word

abbrev pub rows_in : Posting → List Row
rows_in posting = map (row_of posting.word) posting.numbers

while_goes_on : (p : Row → Bool) (x : Row) (xs : List Row) → p x ≡ true → take_while p (x ∷ xs) ≡ x ∷ take_while p xs
while_goes_on p x xs e =
    let one : 1 + prefix_len p xs ≡ suc (prefix_len p xs) = omega arith in
    ap (λ (b : Bool). take (cond b (1 + prefix_len p xs) 0) (x ∷ xs)) e ∙ ap (λ (n : ℕ). take n (x ∷ xs)) one

while_stops : (p : Row → Bool) (x : Row) (xs : List Row) → p x ≡ false → take_while p (x ∷ xs) ≡ []
while_stops p x xs e = ap (λ (b : Bool). take (cond b (1 + prefix_len p xs) 0) (x ∷ xs)) e

pub run_some : (first : Row) (more : List Row) → 1 ≤ length (take_while (same_word first) (first ∷ more))
run_some first more = omega (arith, ap length (while_goes_on (same_word first) first more (same_bytes (row_word first))))

run_is : (p : Row → Bool) (word numbers : List ℕ) (rest : List Row) → ((n : ℕ) → p (row_of word n) ≡ true) → take_while p rest ≡ [] → take_while p (map (row_of word) numbers ++ rest) ≡ map (row_of word) numbers
run_is p word [] rest same stops = stops
run_is p word (n ∷ numbers) rest same stops =
    while_goes_on p (row_of word n) (map (row_of word) numbers ++ rest) (same n) ∙ ap (λ (t : List Row). row_of word n ∷ t) (run_is p word numbers rest same stops)

others_stop : (range : ℕ) (first : Row) (postings : List Posting) → are_postings_after range (row_word first) postings ≡ true → take_while (same_word first) (rows_of postings) ≡ []
others_stop range first [] legal = refl
others_stop range first (posting ∷ postings) legal =
    let f = follows range (row_word first) posting postings legal in
    ap (take_while (same_word first)) (flat_map-cons rows_in posting postings) ∙ by_numbers posting.numbers posting.word (rows_of postings) f.some f.key f.before
  where
    by_numbers : (numbers word : List ℕ) (rest : List Row) → 1 ≤ length numbers → is_word word ≡ true → is_before (row_word first) word ≡ true → take_while (same_word first) (map (row_of word) numbers ++ rest) ≡ []
    by_numbers [] word rest some key before = absurd (omega arith)
    by_numbers (n ∷ numbers) word rest some key before =
        while_stops (same_word first) (row_of word n) (map (row_of word) numbers ++ rest) (ap (bytes_eq (row_word first)) (row_word-row_of word n key) ∙ other_word (row_word first) word before)

entries_of : (word numbers : List ℕ) → map (λ (row : Row). row.entry) (map (row_of word) numbers) ≡ numbers
entries_of word [] = refl
entries_of word (n ∷ numbers) = λ i. row_entry word n i ∷ entries_of word numbers i
  where
    row_entry : (word : List ℕ) (n : ℕ) → (row_of word n).entry ≡ n
    row_entry [] n = refl
    row_entry (b ∷ text) n = refl

-- what the rows from the first one on have in common with it
run_first : (range : ℕ) (first : Row) (more : List Row) (posting : Posting) (postings : List Posting) → first ∷ more ≡ rows_of (posting ∷ postings) → 1 ≤ length posting.numbers → is_word posting.word ≡ true
    → are_postings_after range posting.word postings ≡ true → (row_word first ≡ posting.word) × (take_while (same_word first) (first ∷ more) ≡ rows_in posting)
run_first range first more posting postings e some key legal = by_numbers posting.numbers posting.word some key legal (e ∙ flat_map-cons rows_in posting postings)
  where
    by_numbers : (numbers word : List ℕ) → 1 ≤ length numbers → is_word word ≡ true → are_postings_after range word postings ≡ true → first ∷ more ≡ map (row_of word) numbers ++ rows_of postings
        → (row_word first ≡ word) × (take_while (same_word first) (first ∷ more) ≡ map (row_of word) numbers)
    by_numbers [] word some key legal e = absurd (omega arith)
    by_numbers (n ∷ numbers) word some key legal e =
        let head : first ≡ row_of word n = cc in
        let is : row_word first ≡ word = ap row_word head ∙ row_word-row_of word n key in
        let legal' : are_postings_after range (row_word first) postings ≡ true = subst (λ (w : List ℕ). are_postings_after range w postings ≡ true) (sym is) legal in
        let same : (m : ℕ) → same_word first (row_of word m) ≡ true = λ m. (λ i. bytes_eq (is i) (row_word-row_of word m key i)) ∙ same_bytes word in
        (is, ap (take_while (same_word first)) e ∙ run_is (same_word first) word (n ∷ numbers) (rows_of postings) same (others_stop range first postings legal'))

abbrev with_numbers : List ℕ → List ℕ → Posting
with_numbers word numbers = record { word = word; numbers = numbers }

-- ---- the words so far

pub record WordsSpelled (range : ℕ) (words : SpelledWords) (rest : List Row) (postings : List Posting) : Type 0 where
  pub before : List Posting
  pub after : List Posting
  pub all : before ++ after ≡ postings
  pub rest_are : rest ≡ rows_of after
  pub legal : are_postings_after range (last_word [] before) after ≡ true
  pub spelled : Spells words before

pub one_more : (range : ℕ) (words new : SpelledWords) (first : Row) (more here left : List Row) (word : List ℕ) (n : ℕ) (postings : List Posting) → n ≡ length (take_while (same_word first) (first ∷ more)) → here ≡ take n (first ∷ more) → left ≡ drop n (first ∷ more)
    → word ≡ row_word first → ((before : List Posting) → Spells words before → Spells new (before ++ posting_of word here ∷ [])) → WordsSpelled range words (first ∷ more) postings → WordsSpelled range new left postings
one_more range words new first more here left word n postings n-is here-is left-is word-is spells so_far = by_after so_far.after so_far.rest_are so_far.legal so_far.all
  where
    by_after : (after : List Posting) → first ∷ more ≡ rows_of after → are_postings_after range (last_word [] so_far.before) after ≡ true → so_far.before ++ after ≡ postings → WordsSpelled range new left postings
    by_after [] e legal all = absurd cc
    by_after (posting ∷ after) e legal all =
        let f = follows range (last_word [] so_far.before) posting after legal in
        let run = run_first range first more posting after e f.some f.key f.rest in
        let rows : first ∷ more ≡ rows_in posting ++ rows_of after = e ∙ flat_map-cons rows_in posting after in
        let long : n ≡ length (rows_in posting) = n-is ∙ ap length run.1 in
        let here' : here ≡ rows_in posting = here-is ∙ (λ i. take (long i) (rows i)) ∙ take_at (rows_in posting) (rows_of after) (length (rows_in posting)) refl in
        let left' : left ≡ rows_of after = left-is ∙ (λ i. drop (long i) (rows i)) ∙ drop_at (rows_in posting) (rows_of after) (length (rows_in posting)) refl in
        let is : posting_of word here ≡ posting = (λ i. posting_of ((word-is ∙ run.0) i) (here' i)) ∙ ap (λ (ns : List ℕ). with_numbers posting.word ns) (entries_of posting.word posting.numbers) in
        record {
          before = so_far.before ++ posting ∷ [];
          after = after;
          all = append_assoc so_far.before (posting ∷ []) after ∙ all;
          rest_are = left';
          legal = subst (λ (w : List ℕ). are_postings_after range w after ≡ true) (sym (last_word-snoc [] so_far.before posting)) f.rest;
          spelled = subst (λ (p : Posting). Spells new (so_far.before ++ p ∷ [])) is (spells so_far.before so_far.spelled);
        }

pub none_spelled : (range : ℕ) (words : SpelledWords) (rows : List Row) (postings : List Posting) → words.bytes.items ≡ [] → words.starts.items ≡ [] → words.count ≡ 0 → words.place ≡ 0 → words.last.items ≡ []
    → are_postings_after range [] postings ≡ true → rows ≡ rows_of postings → WordsSpelled range words rows postings
none_spelled range words rows postings bytes starts count place last legal e =
    record { before = []; after = postings; all = refl; rest_are = e; legal = legal; spelled = record { bytes = bytes; starts = starts; count = count; place = place; last = last } }

pub all_spelled : (range : ℕ) (words : SpelledWords) (rest : List Row) (postings : List Posting) → rest ≡ [] → WordsSpelled range words rest postings → Spells words postings
all_spelled range words rest postings none so_far = by_after so_far.after (sym none ∙ so_far.rest_are) so_far.legal so_far.all
  where
    by_after : (after : List Posting) → [] ≡ rows_of after → are_postings_after range (last_word [] so_far.before) after ≡ true → so_far.before ++ after ≡ postings → Spells words postings
    by_after [] e legal all = subst (Spells words) (sym (append-nil so_far.before) ∙ all) so_far.spelled
    by_after (posting ∷ after) e legal all =
        let f = follows range (last_word [] so_far.before) posting after legal in
        absurd (never posting.numbers posting.word (rows_of after) f.some (e ∙ flat_map-cons rows_in posting after))
      where
        never : (numbers word : List ℕ) (rest : List Row) → 1 ≤ length numbers → [] ≡ map (row_of word) numbers ++ rest → ⊥
        never [] word rest some e = omega arith
        never (n ∷ numbers) word rest some e = cc

-- ---- the same where the first row is read from the rows

pub run_smaller : (rest : List Row) (first : Row) (n : ℕ) (left : List Row) → 1 ≤ length rest → first ≡ get_or rest 0 first → n ≡ length (take_while (same_word first) rest) → left ≡ drop n rest → length left < length rest
run_smaller [] first n left some is n-is left-is = absurd (omega arith)
run_smaller (x ∷ rest) first n left some is n-is left-is =
    let one : 1 ≤ length (take_while (same_word x) (x ∷ rest)) = run_some x rest in
    let same : n ≡ length (take_while (same_word x) (x ∷ rest)) = n-is ∙ ap (λ (f : Row). length (take_while (same_word f) (x ∷ rest))) is in
    omega (arith, one, same, ap length left-is, length-drop n (x ∷ rest))

pub word_more : (range : ℕ) (words new : SpelledWords) (rest : List Row) (first : Row) (here left : List Row) (word : List ℕ) (n : ℕ) (postings : List Posting) → 1 ≤ length rest → first ≡ get_or rest 0 first
    → n ≡ length (take_while (same_word first) rest) → here ≡ take n rest → left ≡ drop n rest → word ≡ row_word first → ((before : List Posting) → Spells words before → Spells new (before ++ posting_of word here ∷ []))
    → WordsSpelled range words rest postings → WordsSpelled range new left postings
word_more range words new [] first here left word n postings some is n-is here-is left-is word-is spells so_far = absurd (omega arith)
word_more range words new (x ∷ rest) first here left word n postings some is n-is here-is left-is word-is spells so_far =
    one_more range words new x rest here left word n postings (n-is ∙ ap (λ (f : Row). length (take_while (same_word f) (x ∷ rest))) is) here-is left-is (word-is ∙ ap row_word is) spells so_far

pub none_left : (rest : List Row) → length rest < 1 → rest ≡ []
none_left [] lt = refl
none_left (x ∷ rest) lt = absurd (omega arith)
