-- Reading the numbers of admitted words one after the other, as loops do.
use Rattle.std.proofs.Common.{◌≡◌, ℕ, zero, suc, ◌+◌, ◌-◌, ◌<◌, ◌≤◌, Bool, true, false, cond, List, [], ◌∷◌, ◌++◌, length, get_or, Bor, Result, Ok, Err, refl, sym, ap, subst, ◌∙◌, append_assoc, arith}
use Rattle.std.specs.Prelude.{◌&&◌, ◌||◌, ◌==◌, nat_lt, nat_le, slice_set}
use Rattle.std.specs.List.{list_any}
use Rattle.std.proofs.lemmas.Bool.{ltb-true}
use Rattle.java_tree.specs.declared.key.Category.{Category}
use Rattle.java_model.specs.IndexFile.Content.{Posting}
use Rattle.java_model.specs.IndexFile.Reading.{number_at, numbers_at, posting_at, blocks_at, with_start}
use Rattle.java_model.specs.IndexFile.Spelling.{next_place}
use Rattle.std.proofs.lemmas.List.{append-nil}
use Rattle.disk_index.specs.declared.fault.ReadFault.{ReadFault}
use Rattle.java_model.proofs.IndexFile.Fields.{ruled_ok}
use Rattle.java_model.proofs.IndexFile.Tests.{and_right}
use Rattle.disk_index.specs.Reads.{Fails, GivesSome, head_of, head_at, noted_in, entry_number_at, Notes, admits_word, noted}
use Rattle.disk_index.proofs.BlockLoop.{joined, blocks_none, blocks_next, blocks_fail, blocks_of, posting_is, numbers_missing, NumbersSoFar, numbers_none, numbers_next}

-- ---- numbers among the flags

pub in_range : (range low : ℕ) (bytes : List ℕ) (x : ℕ × List ℕ) → entry_number_at range low bytes ≡ Ok x → x.0 < range
in_range range low bytes x e =
    let rule = ruled_ok (λ m. nat_le low m && nat_lt m range) (number_at 4) bytes x e in
    ltb-true x.0 range (and_right (nat_le low x.0) (nat_lt x.0 range) rule.1)

pub notes_none : (flags : List Bool) → Notes flags [] flags
notes_none flags = record { long = refl; each = λ k. or_none (get_or flags k false) }
  where
    or_none : (b : Bool) → b ≡ (b || false)
    or_none true = refl
    or_none false = refl

list_any-snoc : (test : ℕ → Bool) (numbers : List ℕ) (n : ℕ) → list_any test (numbers ++ n ∷ []) ≡ (list_any test numbers || test n)
list_any-snoc test [] n = or_end (test n)
  where
    or_end : (b : Bool) → (b || false) ≡ (false || b)
    or_end true = refl
    or_end false = refl
list_any-snoc test (m ∷ numbers) n = ap (λ (b : Bool). test m || b) (list_any-snoc test numbers n) ∙ or_assoc (test m) (list_any test numbers) (test n)
  where
    or_assoc : (a b c : Bool) → (a || (b || c)) ≡ ((a || b) || c)
    or_assoc true b c = refl
    or_assoc false b c = refl

get_or-set_here : (flags : List Bool) (n : ℕ) → n < length flags → get_or (slice_set flags n true) n false ≡ true
get_or-set_here [] n lt = absurd (omega arith)
get_or-set_here (b ∷ flags) zero lt = refl
get_or-set_here (b ∷ flags) (suc n) lt = get_or-set_here flags n (omega arith)

get_or-set_there : (flags : List Bool) (n k : ℕ) → (n == k) ≡ false → get_or (slice_set flags n true) k false ≡ get_or flags k false
get_or-set_there [] n k e = refl
get_or-set_there (b ∷ flags) zero zero e = absurd cc
get_or-set_there (b ∷ flags) zero (suc k) e = refl
get_or-set_there (b ∷ flags) (suc n) zero e = refl
get_or-set_there (b ∷ flags) (suc n) (suc k) e = get_or-set_there flags n k (grind arith)

length-set_true : (flags : List Bool) (n : ℕ) → length (slice_set flags n true) ≡ length flags
length-set_true [] n = refl
length-set_true (b ∷ flags) zero = refl
length-set_true (b ∷ flags) (suc n) = ap suc (length-set_true flags n)

pub notes_one : (old flags : List Bool) (numbers : List ℕ) (n : ℕ) → n < length flags → Notes old numbers flags → Notes old (numbers ++ n ∷ []) (slice_set flags n true)
notes_one old flags numbers n lt notes =
    record {
      long = length-set_true flags n ∙ notes.long;
      each = λ k. elim (n == k) as (λ b. (n == k) ≡ b → get_or (slice_set flags n true) k false ≡ (get_or old k false || list_any (λ m. m == k) (numbers ++ n ∷ []))) [
        | true ↦ λ t.
            let same : n ≡ k = grind arith in
            ap (λ (j : ℕ). get_or (slice_set flags n true) j false) (sym same) ∙ get_or-set_here flags n lt
            ∙ sym (ap (λ (b : Bool). get_or old k false || b) (list_any-snoc (λ m. m == k) numbers n ∙ ap (λ (b : Bool). list_any (λ m. m == k) numbers || b) t) ∙ or_true (get_or old k false) (list_any (λ m. m == k) numbers))
        | false ↦ λ f.
            get_or-set_there flags n k f ∙ notes.each k
            ∙ sym (ap (λ (b : Bool). get_or old k false || b) (list_any-snoc (λ m. m == k) numbers n ∙ ap (λ (b : Bool). list_any (λ m. m == k) numbers || b) f ∙ or_false (list_any (λ m. m == k) numbers)))
      ] refl;
    }
  where
    or_true : (a b : Bool) → (a || (b || true)) ≡ true
    or_true true b = refl
    or_true false true = refl
    or_true false false = refl

    or_false : (b : Bool) → (b || false) ≡ b
    or_false true = refl
    or_false false = refl

-- what a loop that notes numbers keeps
pub record NotingSoFar (range count left low : ℕ) (start rest : List ℕ) (old flags : List Bool) : Type 0 where
  pub so_far : NumbersSoFar range count left low start rest
  pub notes : Notes old so_far.before flags

pub noting_begins : (range count : ℕ) (start : List ℕ) (old : List Bool) → NotingSoFar range count (count - 0) 0 start start old old
noting_begins range count start old =
    let all : count - 0 ≡ count = omega arith in
    record { so_far = record { before = []; same = numbers_none (numbers_at range 0 (count - 0) start) ∙ ap (λ (n : ℕ). numbers_at range 0 n start) all }; notes = notes_none old }

pub noting_goes_on : (range count i low : ℕ) (start rest : List ℕ) (old flags : List Bool) (number : ℕ) (after : List ℕ) → i < count → length old ≡ range → entry_number_at range low rest ≡ Ok (number, after)
    → NotingSoFar range count (count - i) low start rest old flags → NotingSoFar range count (count - (i + 1)) (number + 1) start after old (slice_set flags number true)
noting_goes_on range count i low start rest old flags number after lt long e noting =
    record {
      so_far = record { before = noting.so_far.before ++ number ∷ []; same = numbers_next range count i low start rest number after noting.so_far.before lt e noting.so_far.same };
      notes = notes_one old flags noting.so_far.before number (omega (arith, in_range range low rest (number, after) e, long, noting.notes.long)) noting.notes;
    }

-- ---- words among the flags

pub notes_more : (old between new : List Bool) (first second : List ℕ) → Notes old first between → Notes between second new → Notes old (first ++ second) new
notes_more old between new first second a b =
    record {
      long = b.long ∙ a.long;
      each = λ k. b.each k ∙ ap (λ (f : Bool). f || list_any (λ m. m == k) second) (a.each k) ∙ or_assoc (get_or old k false) (list_any (λ m. m == k) first) (list_any (λ m. m == k) second)
          ∙ ap (λ (f : Bool). get_or old k false || f) (sym (any_both (λ m. m == k) first second));
    }
  where
    or_assoc : (a b c : Bool) → ((a || b) || c) ≡ (a || (b || c))
    or_assoc true b c = refl
    or_assoc false b c = refl

    any_both : (test : ℕ → Bool) (xs ys : List ℕ) → list_any test (xs ++ ys) ≡ (list_any test xs || list_any test ys)
    any_both test [] ys = refl
    any_both test (x ∷ xs) ys = ap (λ (f : Bool). test x || f) (any_both test xs ys) ∙ sym (or_assoc (test x) (list_any test xs) (list_any test ys))

pub noted-snoc : (admitted : Category → List ℕ → Bool) (before : List Posting) (posting : Posting) → noted admitted (before ++ posting ∷ []) ≡ noted admitted before ++ noted_in admitted posting
noted-snoc admitted [] posting = append-nil (noted_in admitted posting)
noted-snoc admitted (first ∷ before) posting =
    ap (λ (t : List ℕ). noted_in admitted first ++ t) (noted-snoc admitted before posting) ∙ sym (append_assoc (noted_in admitted first) (noted admitted before) (noted_in admitted posting))

-- what reading the numbers says of the word
pub given_noted : (admitted : Category → List ℕ → Bool) (chosen : Bool) (old new : List Bool) (r : Result (Bor (List ℕ)) ReadFault) (range place : ℕ) (previous bytes word : List ℕ) (count : ℕ) (rest : List ℕ) → chosen ≡ admits_word admitted word
    → head_at place previous bytes ≡ Ok (head_of word count, rest)
    → GivesSome (λ after y. (after.now ≡ y.1) × Notes old (cond chosen y.0 []) new) r (numbers_at range 0 count rest)
    → GivesSome (λ after y. (after.now ≡ y.1) × (word ≡ y.0.word) × Notes old (noted_in admitted y.0) new) r (posting_at range place previous bytes)
given_noted admitted chosen old new (Ok after) range place previous bytes word count rest c h given = (
  (record { word = word; numbers = given.0.0 }, given.0.1),
  posting_is range place previous bytes word count rest given.0.0 given.0.1 h given.1,
  (given.2.0, refl, subst (λ (b : Bool). Notes old (cond b given.0.0 []) new) c given.2.1),
)
given_noted admitted chosen old new (Err e) range place previous bytes word count rest c h given = numbers_missing e range place previous bytes word count rest h given

pub record WordsSoFar (admitted : Category → List ℕ → Bool) (range count left place : ℕ) (word start rest : List ℕ) (old flags : List Bool) : Type 0 where
  pub before : List Posting
  pub starts : List ℕ
  pub within : place < 16
  pub same : joined before starts (blocks_at range place word left rest) ≡ blocks_at range 0 [] count start
  pub notes : Notes old (noted admitted before) flags

pub words_begin : (admitted : Category → List ℕ → Bool) (range count : ℕ) (word start : List ℕ) (old : List Bool) → word ≡ [] → WordsSoFar admitted range count (count - 0) 0 word start start old old
words_begin admitted range count word start old none =
    let all : count - 0 ≡ count = omega arith in
    record {
      before = [];
      starts = [];
      within = omega arith;
      same = blocks_none (blocks_at range 0 word (count - 0) start) ∙ ap (λ (n : ℕ). blocks_at range 0 word n start) all ∙ ap (λ (w : List ℕ). blocks_at range 0 w count start) none;
      notes = notes_none old;
    }

pub words_go_on : (admitted : Category → List ℕ → Bool) (range count i place : ℕ) (word start rest : List ℕ) (old flags : List Bool) (x : Posting × List ℕ) (new after : List ℕ) (more : List Bool) (next : ℕ) → i < count → posting_at range place word rest ≡ Ok x
    → after ≡ x.1 → new ≡ x.0.word → Notes flags (noted_in admitted x.0) more → next ≡ next_place place → next < 16
    → WordsSoFar admitted range count (count - i) place word start rest old flags → WordsSoFar admitted range count (count - (i + 1)) next new start after old more
words_go_on admitted range count i place word start rest old flags x new after more next lt e after-is new-is notes next-is within so_far =
    record {
      before = so_far.before ++ x.0 ∷ [];
      starts = so_far.starts ++ with_start place (length rest) [];
      within = within;
      same = blocks_next range count i place word start rest so_far.before so_far.starts x new after next lt e after-is new-is next-is so_far.same;
      notes = subst (λ (t : List ℕ). Notes old t more) (sym (noted-snoc admitted so_far.before x.0)) (notes_more old flags more (noted admitted so_far.before) (noted_in admitted x.0) so_far.notes notes);
    }

pub words_fail : (e : ReadFault) (admitted : Category → List ℕ → Bool) (range count i place : ℕ) (word start rest : List ℕ) (old flags : List Bool) → i < count → Fails e (posting_at range place word rest)
    → WordsSoFar admitted range count (count - i) place word start rest old flags → Fails e (blocks_at range 0 [] count start)
words_fail e admitted range count i place word start rest old flags lt h so_far =
    blocks_fail e range count i place word start rest so_far.starts lt h (record { before = so_far.before; within = so_far.within; same = so_far.same })

pub words_done : (admitted : Category → List ℕ → Bool) (range count i place : ℕ) (word start rest : List ℕ) (old flags : List Bool) → count ≤ i → (so_far : WordsSoFar admitted range count (count - i) place word start rest old flags)
    → blocks_at range 0 [] count start ≡ Ok (blocks_of so_far.before so_far.starts rest)
unfolding blocks_at
words_done admitted range count i place word start rest old flags le so_far =
    let k : count - i ≡ 0 = omega arith in
    let one : joined so_far.before so_far.starts (blocks_at range place word (count - i) rest) ≡ Ok (blocks_of so_far.before so_far.starts rest) =
    rw k (λ j. Ok (blocks_of (append-nil so_far.before j) (append-nil so_far.starts j) rest)) in
    sym so_far.same ∙ one
