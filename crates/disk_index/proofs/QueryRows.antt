-- The entries that are noted are those of the rows with admitted keys.
use Rattle.std.proofs.Common.{◌≡◌, ℕ, zero, suc, ◌+◌, ◌*◌, Bool, true, false, cond, List, [], ◌∷◌, ◌++◌, length, get_or, drop, Result, Ok, Err, refl, sym, ap, subst, ◌∙◌, arith}
use Rattle.std.specs.Prelude.{◌&&◌, ◌||◌, ◌==◌, nat_le, map, filter, replicate}
use Rattle.std.specs.Prelude.{IfOk}
use Rattle.std.specs.Global.{Vec}
use Rattle.std.specs.List.{list_any}
use Rattle.std.specs.Str.{is_utf8}
use Rattle.std.proofs.lemmas.List.Concat.{flat_map-cons}
use Rattle.java_tree.specs.declared.index.Row.{Row}
use Rattle.java_tree.specs.declared.key.Category.{Category}
use Rattle.java_tree.specs.Keys.{category_at, field_count, fields_in, is_before, is_key, is_word}
use Rattle.java_model.specs.IndexFile.Content.{Posting, row_of, rows_of, are_numbers_from, are_postings_after}
use Rattle.java_model.specs.IndexFile.Reading.{◌>>=◌, Blocks, number_at, slice_at, blocks_at, offsets_at, end_at, Content, postings_at, content_at}
use Rattle.java_model.specs.IndexFile.Spelling.{block_count}
use Rattle.java_model.proofs.IndexFile.Fields.{bind_ok, ok_is}
use Rattle.java_model.proofs.IndexFile.Tests.{and_left, and_right}
use Rattle.disk_index.specs.Reads.{Notes, admits_word, noted_in, noted, words_at}
use Rattle.disk_index.specs.Part.{Part, part_of, content_of, content_or_none, IsTable, numbers_from, answers_of}

-- ---- words that are admitted

abbrev row_test : (Category → List ℕ → Bool) → ℕ → Row → Bool
row_test admitted k row = row.entry == k && admitted row.category row.key

any_both : {X : Type 0} (test : X → Bool) (xs ys : List X) → list_any test (xs ++ ys) ≡ (list_any test xs || list_any test ys)
any_both test [] ys = refl
any_both test (x ∷ xs) ys = ap (λ (f : Bool). test x || f) (any_both test xs ys) ∙ sym (or_assoc (test x) (list_any test xs) (list_any test ys))
  where
    or_assoc : (a b c : Bool) → ((a || b) || c) ≡ (a || (b || c))
    or_assoc true b c = refl
    or_assoc false b c = refl

one_word : (admitted : Category → List ℕ → Bool) (b : ℕ) (text : List ℕ) (k : ℕ) (numbers : List ℕ) (a : Bool) → a ≡ admitted (category_at b) text
    → list_any (λ m. m == k) (cond a numbers []) ≡ list_any (row_test admitted k) (map (row_of (b ∷ text)) numbers)
one_word admitted b text k [] true e = refl
one_word admitted b text k [] false e = refl
one_word admitted b text k (n ∷ numbers) true e =
    rw (← e) (both (n == k) (list_any (λ m. m == k) numbers) (list_any (row_test admitted k) (map (row_of (b ∷ text)) numbers)) (one_word admitted b text k numbers true e))
  where
    both : (t x y : Bool) → x ≡ y → (t || x) ≡ ((t && true) || y)
    both true x y e = refl
    both false x y e = e
one_word admitted b text k (n ∷ numbers) false e =
    rw (← e) (none (n == k) (list_any (row_test admitted k) (map (row_of (b ∷ text)) numbers)) (one_word admitted b text k numbers false e))
  where
    none : (t y : Bool) → false ≡ y → false ≡ ((t && false) || y)
    none true y e = e
    none false y e = e

word_rows : (admitted : Category → List ℕ → Bool) (posting : Posting) (k : ℕ) → is_word posting.word ≡ true → list_any (λ m. m == k) (noted_in admitted posting) ≡ list_any (row_test admitted k) (map (row_of posting.word) posting.numbers)
word_rows admitted posting k key = by_word posting.word posting.numbers key
  where
    by_word : (word numbers : List ℕ) → is_word word ≡ true → list_any (λ m. m == k) (cond (admits_word admitted word) numbers []) ≡ list_any (row_test admitted k) (map (row_of word) numbers)
    by_word [] numbers key = absurd cc
    by_word (b ∷ text) numbers key =
        let good : is_key (category_at b) text ≡ true = and_right (nat_le 1 b && nat_le b 9) (is_key (category_at b) text) key in
        let utf8 : is_utf8 text ≡ true = and_left (is_utf8 text) (fields_in text == field_count (category_at b)) good in
        rw utf8 (one_word admitted b text k numbers (admitted (category_at b) text) refl)

pub all_rows : (admitted : Category → List ℕ → Bool) (k range : ℕ) (previous : List ℕ) (postings : List Posting) → are_postings_after range previous postings ≡ true
    → list_any (λ m. m == k) (noted admitted postings) ≡ list_any (row_test admitted k) (rows_of postings)
all_rows admitted k range previous [] legal = refl
all_rows admitted k range previous (posting ∷ postings) legal =
    let before = is_before previous posting.word in
    let key = is_word posting.word in
    let some = nat_le 1 (length posting.numbers) in
    let numbers = are_numbers_from range 0 posting.numbers in
    let l4 = and_left (before && key && some && numbers) (are_postings_after range posting.word postings) legal in
    let l2 = and_left (before && key) some (and_left (before && key && some) numbers l4) in
    let rest = and_right (before && key && some && numbers) (are_postings_after range posting.word postings) legal in
    any_both (λ m. m == k) (noted_in admitted posting) (noted admitted postings)
    ∙ (λ i. word_rows admitted posting k (and_right before key l2) i || all_rows admitted k range posting.word postings rest i)
    ∙ sym (any_both (row_test admitted k) (map (row_of posting.word) posting.numbers) (rows_of postings))
    ∙ ap (list_any (row_test admitted k)) (sym (flat_map-cons (λ p. map (row_of p.word) p.numbers) posting postings))

-- ---- the answer

pub filter_same : (p q : ℕ → Bool) (xs : List ℕ) → ((n : ℕ) → p n ≡ q n) → filter p xs ≡ filter q xs
filter_same p q [] same = refl
filter_same p q (x ∷ xs) same = λ i. cond (same x i) (x ∷ filter_same p q xs same i) (filter_same p q xs same i)

get_or-replicate_false : (n k : ℕ) → get_or (replicate n false) k false ≡ false
get_or-replicate_false zero k = refl
get_or-replicate_false (suc n) zero = refl
get_or-replicate_false (suc n) (suc k) = get_or-replicate_false n k

joined_read : (range : ℕ) (bytes : List ℕ) (x : ℕ × List ℕ) (y : List ℕ × List ℕ) (b : Blocks) → number_at 4 bytes ≡ Ok x → slice_at (4 * block_count x.0) x.1 ≡ Ok y → blocks_at range 0 [] x.0 y.1 ≡ Ok b → words_at range bytes ≡ Ok b
joined_read range bytes x y b first second third = rw (first, second, third) refl

-- the words of a file that was read
pub words_read : (total range : ℕ) (bytes : List ℕ) (postings : List Posting) → postings_at total range bytes ≡ Ok postings → (blocks : Blocks) × (words_at range bytes ≡ Ok blocks) × (blocks.postings ≡ postings)
unfolding postings_at
words_read total range bytes postings e =
    let a = bind_ok (number_at 4 bytes) (λ count. slice_at (4 * block_count count.0) count.1 >>= λ offsets. blocks_at range 0 [] count.0 offsets.1 >>= λ blocks. offsets_at total blocks.starts count.1 >>= λ checked. end_at blocks.rest >>= λ ended. Ok blocks.postings) postings e in
    let b = bind_ok (slice_at (4 * block_count a.0.0) a.0.1) (λ offsets. blocks_at range 0 [] a.0.0 offsets.1 >>= λ blocks. offsets_at total blocks.starts a.0.1 >>= λ checked. end_at blocks.rest >>= λ ended. Ok blocks.postings) postings a.2 in
    let c = bind_ok (blocks_at range 0 [] a.0.0 b.0.1) (λ blocks. offsets_at total blocks.starts a.0.1 >>= λ checked. end_at blocks.rest >>= λ ended. Ok blocks.postings) postings b.2 in
    let d = bind_ok (offsets_at total c.0.starts a.0.1) (λ checked. end_at c.0.rest >>= λ ended. Ok c.0.postings) postings c.2 in
    let f = bind_ok (end_at c.0.rest) (λ ended. Ok c.0.postings) postings d.2 in
    (c.0, joined_read range bytes a.0 b.0 c.0 a.1 b.1 c.1, ok_is c.0.postings postings f.2)

-- ---- the numbers that are chosen

numbers_from-last : (m n : ℕ) → numbers_from m (suc n) ≡ numbers_from m n ++ (m + n) ∷ []
numbers_from-last m zero = let e : m ≡ m + 0 = omega arith in ap (λ (k : ℕ). k ∷ []) e
numbers_from-last m (suc n) =
    let e : suc m + n ≡ m + suc n = omega arith in
    ap (λ (t : List ℕ). m ∷ t) (numbers_from-last (suc m) n ∙ ap (λ (k : ℕ). numbers_from (suc m) n ++ k ∷ []) e)

filter-append : (p : ℕ → Bool) (xs ys : List ℕ) → filter p (xs ++ ys) ≡ filter p xs ++ filter p ys
filter-append p [] ys = refl
filter-append p (x ∷ xs) ys = by_test (p x) x (filter p (xs ++ ys)) (filter p xs) (filter p ys) (filter-append p xs ys)
  where
    by_test : (b : Bool) (x : ℕ) (all front rest : List ℕ) → all ≡ front ++ rest → cond b (x ∷ all) all ≡ cond b (x ∷ front) front ++ rest
    by_test true x all front rest e = ap (λ (t : List ℕ). x ∷ t) e
    by_test false x all front rest e = e

pub chosen_next : (p : ℕ → Bool) (n : ℕ) (chosen : Bool) (old new : List ℕ) → chosen ≡ p n → old ≡ filter p (numbers_from 0 n) → new ≡ old ++ cond chosen (n ∷ []) [] → new ≡ filter p (numbers_from 0 (n + 1))
chosen_next p n chosen old new c o e =
    let next : n + 1 ≡ suc n = omega arith in
    let last : 0 + n ≡ n = omega arith in
    e ∙ ap (λ (t : List ℕ). t ++ cond chosen (n ∷ []) []) o ∙ ap (λ (b : Bool). filter p (numbers_from 0 n) ++ cond b (n ∷ []) []) c
    ∙ sym (ap (λ (k : ℕ). filter p (numbers_from 0 k)) next ∙ ap (filter p) (numbers_from-last 0 n ∙ ap (λ (k : ℕ). numbers_from 0 n ++ k ∷ []) last) ∙ filter-append p (numbers_from 0 n) (n ∷ []))

-- ---- a query

row_answers : (admitted : Category → List ℕ → Bool) (content : Content) (live old found : List Bool) (blocks : Blocks) → are_postings_after (length content.entries) [] content.postings ≡ true → blocks.postings ≡ content.postings
    → ((k : ℕ) → get_or old k false ≡ false) → Notes old (noted admitted blocks.postings) found → (n : ℕ)
    → (get_or live n false && get_or found n false) ≡ (get_or live n false && list_any (row_test admitted n) (rows_of content.postings))
row_answers admitted content live old found blocks legal same none notes n =
    ap (λ (b : Bool). get_or live n false && b)
    (notes.each n ∙ ap (λ (b : Bool). b || list_any (λ m. m == n) (noted admitted blocks.postings)) (none n) ∙ ap (λ (p : List Posting). list_any (λ m. m == n) (noted admitted p)) same
    ∙ all_rows admitted n (length content.entries) [] content.postings legal)

-- the words that were noted are those of the content
same_words : (bytes : List ℕ) (words : ℕ) (content : Content) (blocks : Blocks) → postings_at (length bytes) (length content.entries) (drop words bytes) ≡ Ok content.postings → words_at (length content.entries) (drop words bytes) ≡ Ok blocks → blocks.postings ≡ content.postings
same_words bytes words content blocks read is =
    let w = words_read (length bytes) (length content.entries) (drop words bytes) content.postings read in
    ap (λ (b : Blocks). b.postings) (ok_is blocks w.0 (sym is ∙ w.1)) ∙ w.2

abbrev IsAnswer : (Category → List ℕ → Bool) → List Bool → List Bool → Content → Type 0
IsAnswer admitted live found content =
    filter (λ n. get_or live n false && get_or found n false) (numbers_from 0 (length live)) ≡ filter (λ n. get_or live n false && list_any (row_test admitted n) (rows_of content.postings)) (numbers_from 0 (length content.entries))

pub is_answer : (admitted : Category → List ℕ → Bool) (bytes places : List ℕ) (words : ℕ) (live old found : List Bool) (blocks : Blocks) → IsTable bytes places words live → ((k : ℕ) → get_or old k false ≡ false)
    → words_at (length (content_of bytes).entries) (drop words bytes) ≡ Ok blocks → Notes old (noted admitted blocks.postings) found → IsAnswer admitted live found (content_of bytes)
is_answer admitted bytes places words live old found blocks table none is notes = by_content (content_at bytes) refl
  where
    by_content : (r : Result Content ℕ) → content_at bytes ≡ r → IsAnswer admitted live found (content_of bytes)
    by_content (Ok content) e =
        let held : content_of bytes ≡ content = ap content_or_none e in
        let read = table.read content e in
        let here : words_at (length content.entries) (drop words bytes) ≡ Ok blocks = subst (λ (c : Content). words_at (length c.entries) (drop words bytes) ≡ Ok blocks) held is in
        let legal : are_postings_after (length content.entries) [] content.postings ≡ true = subst (λ (c : Content). are_postings_after (length c.entries) [] c.postings ≡ true) held table.legal in
        let long : length live ≡ length content.entries = table.long ∙ ap (λ (c : Content). length c.entries) held in
        subst (IsAnswer admitted live found) (sym held)
        (ap (λ (n : ℕ). filter (λ k. get_or live k false && get_or found k false) (numbers_from 0 n)) long
        ∙ filter_same (λ k. get_or live k false && get_or found k false) (λ k. get_or live k false && list_any (row_test admitted k) (rows_of content.postings)) (numbers_from 0 (length content.entries))
        (row_answers admitted content live old found blocks legal (same_words bytes words content blocks read here) none notes))
    by_content (Err left) e =
        let held : content_of bytes ≡ record { entries = []; postings = [] } = ap content_or_none e in
        let long : length live ≡ 0 = table.long ∙ ap (λ (c : Content). length c.entries) held in
        subst (IsAnswer admitted live found) (sym held) (ap (λ (n : ℕ). filter (λ k. get_or live k false && get_or found k false) (numbers_from 0 n)) long)

abbrev ok_blocks : Blocks → Result Blocks ℕ
ok_blocks b = Ok b

pub no_answer : (admitted : Category → List ℕ → Bool) (bytes places : List ℕ) (words : ℕ) (live : List Bool) (left : ℕ) → IsTable bytes places words live → words_at (length (content_of bytes).entries) (drop words bytes) ≡ Err left → [] ≡ answers_of admitted (part_of bytes live)
no_answer admitted bytes places words live left table is = by_content (content_at bytes) refl
  where
    by_content : (r : Result Content ℕ) → content_at bytes ≡ r → [] ≡ answers_of admitted (part_of bytes live)
    by_content (Ok content) e =
        let held : content_of bytes ≡ content = ap content_or_none e in
        let w = words_read (length bytes) (length content.entries) (drop words bytes) content.postings (table.read content e) in
        let here : words_at (length content.entries) (drop words bytes) ≡ Err left = subst (λ (c : Content). words_at (length c.entries) (drop words bytes) ≡ Err left) held is in
        let there : words_at (length content.entries) (drop words bytes) ≡ Ok w.0 = w.1 in
        absurd (never w.0 left (sym there ∙ here))
      where
        never : (b : Blocks) (left : ℕ) → ok_blocks b ≡ Err left → ⊥
        never b left e = cc
    by_content (Err failed) e =
        let held : content_of bytes ≡ record { entries = []; postings = [] } = ap content_or_none e in
        sym (ap (λ (c : Content). filter (λ n. get_or live n false && list_any (row_test admitted n) (rows_of c.postings)) (numbers_from 0 (length c.entries))) held)

-- what the flags give
pub answered : {E : Type 0} (r : Result (Vec ℕ) E) (admitted : Category → List ℕ → Bool) (part : Part) (bytes places : List ℕ) (words : ℕ) (live shown_live old found shown_found : List Bool) (range count : ℕ) (rest : List ℕ) → part ≡ part_of bytes live
    → IsTable bytes places words live → range ≡ length part.entries → rest ≡ drop words bytes → old ≡ replicate count false → shown_live ≡ live → shown_found ≡ found
    → (blocks : Blocks) → words_at range rest ≡ Ok blocks → Notes old (noted admitted blocks.postings) found
    → IfOk r (λ v. v.items ≡ filter (λ n. get_or shown_live n false && get_or shown_found n false) (numbers_from 0 (length shown_live)))
    → IfOk r (λ v. v.items ≡ answers_of admitted part)
answered (Err e) admitted part bytes places words live shown_live old found shown_found range count rest view table range-is rest-is old-is live-is found-is blocks is notes given = tt
answered (Ok v) admitted part bytes places words live shown_live old found shown_found range count rest view table range-is rest-is old-is live-is found-is blocks is notes given =
    let none : (k : ℕ) → get_or old k false ≡ false = λ k. ap (λ (f : List Bool). get_or f k false) old-is ∙ get_or-replicate_false count k in
    let all : range ≡ length (content_of bytes).entries = range-is ∙ ap (λ (p : Part). length p.entries) view in
    let here : words_at (length (content_of bytes).entries) (drop words bytes) ≡ Ok blocks = sym (λ i. words_at (all i) (rest-is i)) ∙ is in
    given ∙ (λ i. filter (λ n. get_or (live-is i) n false && get_or (found-is i) n false) (numbers_from 0 (length (live-is i))))
    ∙ is_answer admitted bytes places words live old found blocks table none here notes ∙ sym (ap (answers_of admitted) view)

pub answered_none : (admitted : Category → List ℕ → Bool) (part : Part) (bytes places : List ℕ) (words : ℕ) (live : List Bool) (range left : ℕ) (rest numbers : List ℕ) → part ≡ part_of bytes live
    → IsTable bytes places words live → range ≡ length part.entries → rest ≡ drop words bytes → numbers ≡ [] → words_at range rest ≡ Err left → numbers ≡ answers_of admitted part
answered_none admitted part bytes places words live range left rest numbers view table range-is rest-is none failed =
    let all : range ≡ length (content_of bytes).entries = range-is ∙ ap (λ (p : Part). length p.entries) view in
    let here : words_at (length (content_of bytes).entries) (drop words bytes) ≡ Err left = sym (λ i. words_at (all i) (rest-is i)) ∙ failed in
    none ∙ no_answer admitted bytes places words live left table here ∙ sym (ap (answers_of admitted) view)
