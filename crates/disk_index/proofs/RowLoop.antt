-- Reading the live rows one after the other, as loops do.
use Rattle.std.proofs.Common.{◌≡◌, ℕ, ◌+◌, ◌-◌, ◌<◌, ◌≤◌, Bool, true, false, cond, List, [], ◌∷◌, ◌++◌, length, drop, get_or, take, Bor, Result, Ok, Err, refl, sym, ap, subst, ◌∙◌, append_assoc, arith}
use Rattle.std.specs.Prelude.{map}
use Rattle.std.proofs.lemmas.List.{append-nil}
use Rattle.std.proofs.lemmas.List.Concat.{flat_map-cons}
use Rattle.java_tree.specs.Keys.{is_word}
use Rattle.java_tree.specs.declared.index.Row.{Row}
use Rattle.java_model.specs.IndexFile.Content.{Posting, row_of, rows_of}
use Rattle.java_model.specs.IndexFile.Reading.{◌>>=◌, Blocks, Content, number_at, slice_at, ruled, is_suffix, may_follow, with_start, numbers_at, posting_at, blocks_at, content_at}
use Rattle.java_model.specs.IndexFile.Spelling.{next_place}
use Rattle.java_model.proofs.IndexFile.Fields.{bind_ok, ok_is, ruled_ok}
use Rattle.java_model.proofs.IndexFile.Tests.{and_right}
use Rattle.disk_index.specs.declared.fault.ReadFault.{ReadFault}
use Rattle.disk_index.specs.Reads.{Fails, GivesSome, Head, head_of, shared_at, word_at, count_at, head_at, entry_number_at, words_at}
use Rattle.disk_index.specs.Part.{Part, part_of, content_of, content_or_none, IsTable, live_rows}
use Rattle.disk_index.proofs.BlockLoop.{joined, blocks_none, blocks_next, blocks_fail, blocks_of, posting_is, numbers_missing, NumbersSoFar, numbers_none, numbers_next}
use Rattle.disk_index.proofs.QueryRows.{words_read}

-- ---- lists

live-append : (live : List Bool) (xs ys : List Row) → live_rows live (xs ++ ys) ≡ live_rows live xs ++ live_rows live ys
live-append live [] ys = refl
live-append live (x ∷ xs) ys = by_test (get_or live x.entry false) x (live_rows live (xs ++ ys)) (live_rows live xs) (live_rows live ys) (live-append live xs ys)
  where
    by_test : (b : Bool) (x : Row) (all front rest : List Row) → all ≡ front ++ rest → cond b (x ∷ all) all ≡ cond b (x ∷ front) front ++ rest
    by_test true x all front rest e = ap (λ (t : List Row). x ∷ t) e
    by_test false x all front rest e = e

map-snoc : (f : ℕ → Row) (xs : List ℕ) (x : ℕ) → map f (xs ++ x ∷ []) ≡ map f xs ++ f x ∷ []
map-snoc f [] x = refl
map-snoc f (y ∷ xs) x = ap (λ (t : List Row). f y ∷ t) (map-snoc f xs x)

abbrev rows_in : Posting → List Row
rows_in posting = map (row_of posting.word) posting.numbers

rows_of-snoc : (before : List Posting) (posting : Posting) → rows_of (before ++ posting ∷ []) ≡ rows_of before ++ rows_in posting
rows_of-snoc [] posting = flat_map-cons rows_in posting [] ∙ append-nil (rows_in posting)
rows_of-snoc (first ∷ before) posting =
    flat_map-cons rows_in first (before ++ posting ∷ []) ∙ ap (λ (t : List Row). rows_in first ++ t) (rows_of-snoc before posting) ∙ sym (append_assoc (rows_in first) (rows_of before) (rows_in posting))
    ∙ ap (λ (t : List Row). t ++ rows_in posting) (sym (flat_map-cons rows_in first before))

-- ---- a word

pub word_is : (place : ℕ) (previous bytes word : List ℕ) (count : ℕ) (rest : List ℕ) → head_at place previous bytes ≡ Ok (head_of word count, rest) → is_word word ≡ true
unfolding head_at
word_is place previous bytes word count rest e =
    let a = bind_ok (shared_at place previous bytes) (λ shared. word_at place previous shared.0 shared.1 >>= λ w. count_at w.1 >>= λ n. Ok (head_of w.0 n.0, n.1)) (head_of word count, rest) e in
    let b = bind_ok (word_at place previous a.0.0 a.0.1) (λ w. count_at w.1 >>= λ n. Ok (head_of w.0 n.0, n.1)) (head_of word count, rest) a.2 in
    let c = bind_ok (count_at b.0.1) (λ n. Ok (head_of b.0.0 n.0, n.1)) (head_of word count, rest) b.2 in
    let same : b.0.0 ≡ word = ap (λ (x : Head × List ℕ). x.0.word) (ok_is (head_of b.0.0 c.0.0, c.0.1) (head_of word count, rest) c.2) in
    subst (λ (w : List ℕ). is_word w ≡ true) same (read_word place previous a.0.0 a.0.1 b.0 b.1)
  where
    read_word : (place : ℕ) (previous : List ℕ) (n : ℕ) (bytes : List ℕ) (x : List ℕ × List ℕ) → word_at place previous n bytes ≡ Ok x → is_word x.0 ≡ true
    read_word place previous n bytes x e =
        let a = bind_ok (number_at 4 bytes) (λ len. ruled (is_suffix place previous n) (slice_at len.0) len.1 >>= λ rest. Ok (take n previous ++ rest.0, rest.1)) x e in
        let b = bind_ok (ruled (is_suffix place previous n) (slice_at a.0.0) a.0.1) (λ rest. Ok (take n previous ++ rest.0, rest.1)) x a.2 in
        let rule = ruled_ok (is_suffix place previous n) (slice_at a.0.0) a.0.1 b.0 b.1 in
        subst (λ (w : List ℕ). is_word w ≡ true) (ap (λ (y : List ℕ × List ℕ). y.0) (ok_is (take n previous ++ b.0.0, b.0.1) x b.2))
        (and_right (may_follow place previous n b.0.0) (is_word (take n previous ++ b.0.0)) rule.1)

-- ---- numbers

pub record NumbersSeen (live : List Bool) (count left low : ℕ) (word start rest : List ℕ) (old rows : List Row) : Type 0 where
  pub so_far : NumbersSoFar (length live) count left low start rest
  pub rows_are : rows ≡ old ++ live_rows live (map (row_of word) so_far.before)

pub seeing_begins : (live : List Bool) (count : ℕ) (word start : List ℕ) (old : List Row) → NumbersSeen live count (count - 0) 0 word start start old old
seeing_begins live count word start old =
    let all : count - 0 ≡ count = omega arith in
    record { so_far = record { before = []; same = numbers_none (numbers_at (length live) 0 (count - 0) start) ∙ ap (λ (n : ℕ). numbers_at (length live) 0 n start) all }; rows_are = sym (append-nil old) }

pub seeing_goes_on : (live : List Bool) (count i low : ℕ) (word start rest : List ℕ) (old rows new : List Row) (number : ℕ) (after : List ℕ) → i < count → entry_number_at (length live) low rest ≡ Ok (number, after)
    → new ≡ rows ++ live_rows live (row_of word number ∷ []) → NumbersSeen live count (count - i) low word start rest old rows → NumbersSeen live count (count - (i + 1)) (number + 1) word start after old new
seeing_goes_on live count i low word start rest old rows new number after lt e pushed seen =
    let before = seen.so_far.before in
    record {
      so_far = record { before = before ++ number ∷ []; same = numbers_next (length live) count i low start rest number after before lt e seen.so_far.same };
      rows_are = pushed ∙ ap (λ (t : List Row). t ++ live_rows live (row_of word number ∷ [])) seen.rows_are ∙ append_assoc old (live_rows live (map (row_of word) before)) (live_rows live (row_of word number ∷ []))
          ∙ ap (λ (t : List Row). old ++ t) (sym (ap (live_rows live) (map-snoc (row_of word) before number) ∙ live-append live (map (row_of word) before) (row_of word number ∷ [])));
    }

pub given_rows : (live : List Bool) (old new : List Row) (r : Result (Bor (List ℕ)) ReadFault) (place : ℕ) (previous bytes word parts : List ℕ) (count : ℕ) (rest : List ℕ) → parts ≡ word
    → head_at place previous bytes ≡ Ok (head_of word count, rest)
    → GivesSome (λ after y. (after.now ≡ y.1) × (new ≡ old ++ live_rows live (map (row_of parts) y.0))) r (numbers_at (length live) 0 count rest)
    → GivesSome (λ after y. (after.now ≡ y.1) × (word ≡ y.0.word) × (new ≡ old ++ live_rows live (map (row_of y.0.word) y.0.numbers))) r (posting_at (length live) place previous bytes)
given_rows live old new (Ok after) place previous bytes word parts count rest same h given = (
  (record { word = word; numbers = given.0.0 }, given.0.1),
  posting_is (length live) place previous bytes word count rest given.0.0 given.0.1 h given.1,
  (given.2.0, refl, subst (λ (w : List ℕ). new ≡ old ++ live_rows live (map (row_of w) given.0.0)) same given.2.1),
)
given_rows live old new (Err e) place previous bytes word parts count rest same h given = numbers_missing e (length live) place previous bytes word count rest h given

-- ---- words

pub record RowsSoFar (live : List Bool) (count left place : ℕ) (word start rest : List ℕ) (old rows : List Row) : Type 0 where
  pub before : List Posting
  pub starts : List ℕ
  pub within : place < 16
  pub same : joined before starts (blocks_at (length live) place word left rest) ≡ blocks_at (length live) 0 [] count start
  pub rows_are : rows ≡ old ++ live_rows live (rows_of before)

pub rows_begin : (live : List Bool) (count : ℕ) (word start : List ℕ) (old : List Row) → word ≡ [] → RowsSoFar live count (count - 0) 0 word start start old old
rows_begin live count word start old none =
    let all : count - 0 ≡ count = omega arith in
    record {
      before = [];
      starts = [];
      within = omega arith;
      same = blocks_none (blocks_at (length live) 0 word (count - 0) start) ∙ ap (λ (n : ℕ). blocks_at (length live) 0 word n start) all ∙ ap (λ (w : List ℕ). blocks_at (length live) 0 w count start) none;
      rows_are = sym (append-nil old);
    }

pub rows_go_on : (live : List Bool) (count i place : ℕ) (word start rest : List ℕ) (old rows new_rows : List Row) (x : Posting × List ℕ) (new after : List ℕ) (next : ℕ) → i < count → posting_at (length live) place word rest ≡ Ok x
    → after ≡ x.1 → new ≡ x.0.word → new_rows ≡ rows ++ live_rows live (map (row_of x.0.word) x.0.numbers) → next ≡ next_place place → next < 16
    → RowsSoFar live count (count - i) place word start rest old rows → RowsSoFar live count (count - (i + 1)) next new start after old new_rows
rows_go_on live count i place word start rest old rows new_rows x new after next lt e after-is new-is pushed next-is within so_far =
    let before = so_far.before in
    record {
      before = before ++ x.0 ∷ [];
      starts = so_far.starts ++ with_start place (length rest) [];
      within = within;
      same = blocks_next (length live) count i place word start rest before so_far.starts x new after next lt e after-is new-is next-is so_far.same;
      rows_are = pushed ∙ ap (λ (t : List Row). t ++ live_rows live (rows_in x.0)) so_far.rows_are ∙ append_assoc old (live_rows live (rows_of before)) (live_rows live (rows_in x.0))
          ∙ ap (λ (t : List Row). old ++ t) (sym (ap (live_rows live) (rows_of-snoc before x.0) ∙ live-append live (rows_of before) (rows_in x.0)));
    }

pub rows_fail : (e : ReadFault) (live : List Bool) (count i place : ℕ) (word start rest : List ℕ) (old rows : List Row) → i < count → Fails e (posting_at (length live) place word rest)
    → RowsSoFar live count (count - i) place word start rest old rows → Fails e (blocks_at (length live) 0 [] count start)
rows_fail e live count i place word start rest old rows lt h so_far =
    blocks_fail e (length live) count i place word start rest so_far.starts lt h (record { before = so_far.before; within = so_far.within; same = so_far.same })

pub rows_done : (live : List Bool) (count i place : ℕ) (word start rest : List ℕ) (old rows : List Row) → count ≤ i → (so_far : RowsSoFar live count (count - i) place word start rest old rows)
    → blocks_at (length live) 0 [] count start ≡ Ok (blocks_of so_far.before so_far.starts rest)
unfolding blocks_at
rows_done live count i place word start rest old rows le so_far =
    let k : count - i ≡ 0 = omega arith in
    let one : joined so_far.before so_far.starts (blocks_at (length live) place word (count - i) rest) ≡ Ok (blocks_of so_far.before so_far.starts rest) =
    rw k (λ j. Ok (blocks_of (append-nil so_far.before j) (append-nil so_far.starts j) rest)) in
    sym so_far.same ∙ one

-- ---- the part's rows

abbrev blocks_ok : Blocks → Result Blocks ℕ
blocks_ok blocks = Ok blocks

no_flags : (live : List Bool) → length live ≡ 0 → live ≡ []
no_flags [] e = refl
no_flags (b ∷ live) e = absurd (omega arith)

none_live : (rows : List Row) → live_rows [] rows ≡ []
none_live [] = refl
none_live (row ∷ rows) = none_live rows

abbrev RowsAre : List Bool → List Row → Content → Type 0
RowsAre live rows content = rows ≡ live_rows live (rows_of content.postings)

pub rows_found : (part : Part) (bytes places : List ℕ) (words : ℕ) (live shown : List Bool) (rest : List ℕ) (rows : List Row) → part ≡ part_of bytes live → IsTable bytes places words live → shown ≡ live → rest ≡ drop words bytes
    → (blocks : Blocks) → words_at (length shown) rest ≡ Ok blocks → rows ≡ live_rows shown (rows_of blocks.postings) → rows ≡ live_rows part.live part.rows
rows_found part bytes places words live shown rest rows view table shown-is rest-is blocks is given = by_content (content_at bytes) refl ∙ sym (ap (λ (p : Part). live_rows p.live p.rows) view)
  where
    here : words_at (length live) (drop words bytes) ≡ Ok blocks
    here = sym (λ i. words_at (length (shown-is i)) (rest-is i)) ∙ is

    by_content : (r : Result Content ℕ) → content_at bytes ≡ r → RowsAre live rows (content_of bytes)
    by_content (Ok content) e =
        let held : content_of bytes ≡ content = ap content_or_none e in
        let long : length live ≡ length content.entries = table.long ∙ ap (λ (c : Content). length c.entries) held in
        let w = words_read (length bytes) (length content.entries) (drop words bytes) content.postings (table.read content e) in
        let there : words_at (length content.entries) (drop words bytes) ≡ Ok blocks = sym (ap (λ (n : ℕ). words_at n (drop words bytes)) long) ∙ here in
        let same : blocks.postings ≡ content.postings = ap (λ (b : Blocks). b.postings) (ok_is blocks w.0 (sym there ∙ w.1)) ∙ w.2 in
        subst (RowsAre live rows) (sym held) (given ∙ ap (λ (l : List Bool). live_rows l (rows_of blocks.postings)) shown-is ∙ ap (λ (p : List Posting). live_rows live (rows_of p)) same)
    by_content (Err left) e =
        let held : content_of bytes ≡ record { entries = []; postings = [] } = ap content_or_none e in
        let nothing : live ≡ [] = no_flags live (table.long ∙ ap (λ (c : Content). length c.entries) held) in
        subst (RowsAre live rows) (sym held) (given ∙ ap (λ (l : List Bool). live_rows l (rows_of blocks.postings)) (shown-is ∙ nothing) ∙ none_live (rows_of blocks.postings))

pub no_rows : (part : Part) (bytes places : List ℕ) (words : ℕ) (live shown : List Bool) (left : ℕ) (rest : List ℕ) (rows : List Row) → part ≡ part_of bytes live → IsTable bytes places words live → shown ≡ live → rest ≡ drop words bytes
    → words_at (length shown) rest ≡ Err left → rows ≡ [] → rows ≡ live_rows part.live part.rows
no_rows part bytes places words live shown left rest rows view table shown-is rest-is is nothing = by_content (content_at bytes) refl ∙ sym (ap (λ (p : Part). live_rows p.live p.rows) view)
  where
    here : words_at (length live) (drop words bytes) ≡ Err left
    here = sym (λ i. words_at (length (shown-is i)) (rest-is i)) ∙ is

    never : (b : Blocks) (left : ℕ) → blocks_ok b ≡ Err left → ⊥
    never b left e = cc

    by_content : (r : Result Content ℕ) → content_at bytes ≡ r → RowsAre live rows (content_of bytes)
    by_content (Ok content) e =
        let held : content_of bytes ≡ content = ap content_or_none e in
        let long : length live ≡ length content.entries = table.long ∙ ap (λ (c : Content). length c.entries) held in
        let w = words_read (length bytes) (length content.entries) (drop words bytes) content.postings (table.read content e) in
        let there : words_at (length content.entries) (drop words bytes) ≡ Err left = sym (ap (λ (n : ℕ). words_at n (drop words bytes)) long) ∙ here in
        let found : words_at (length content.entries) (drop words bytes) ≡ blocks_ok w.0 = w.1 in
        absurd (never w.0 left (sym found ∙ there))
    by_content (Err failed) e =
        let held : content_of bytes ≡ record { entries = []; postings = [] } = ap content_or_none e in
        subst (RowsAre live rows) (sym held) nothing
