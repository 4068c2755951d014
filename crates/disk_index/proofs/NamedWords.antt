-- The words of one name stand together: those before the key, and those past it, aren't among them.
use Rattle.std.proofs.Common.{◌≡◌, ◌⊎◌, inl, inr, ℕ, zero, suc, ◌+◌, ◌<◌, ◌≤◌, min, Bool, true, false, cond, List, [], ◌∷◌, ◌++◌, length, take, drop, Some, refl, sym, ap, subst, ◌∙◌, append_assoc, take-append-drop, arith}
use Rattle.std.specs.Prelude.{◌&&◌, ◌||◌, ◌==◌, nat_lt, nat_le}
use Rattle.std.specs.Str.{is_utf8}
use Rattle.std.proofs.lemmas.Bool.{cases_lt, eqb-true, ltb-true, leb-true}
use Rattle.std.proofs.lemmas.List.{append-nil}
use Rattle.std.proofs.lemmas.List.Folds.{list_any-append}
use Rattle.java_tree.specs.declared.key.Category.{Category}
use Rattle.java_tree.specs.Keys.{category_at, category_byte, is_before, is_key, is_word}
use Rattle.java_model.specs.IndexFile.Content.{Posting, are_postings_after}
use Rattle.java_model.proofs.IndexFile.Laws.{row_word-row_of}
use Rattle.java_model.proofs.IndexFile.Tests.{and_left, and_right, and_both}
use Rattle.index_keys.specs.Fields.{first_field, AdmitsOnly}
use Rattle.disk_index.specs.Reads.{admits_word, noted_in, noted}
use Rattle.disk_index.specs.Named.{is_past, BeginsPast, Visits, has, in_category, Finds}
use Rattle.disk_index.proofs.RunLaws.{follows}

-- ---- the order of words

before_cons : (x y : ℕ) (xs ys : List ℕ) → is_before (x ∷ xs) (y ∷ ys) ≡ true → (x < y) ⊎ ((x ≡ y) × (is_before xs ys ≡ true))
before_cons x y xs ys e =
    elim (nat_lt x y) as (λ b. nat_lt x y ≡ b → (x < y) ⊎ ((x ≡ y) × (is_before xs ys ≡ true))) [
      | true ↦ λ t. inl (ltb-true x y t)
      | false ↦ λ f.
          let rest : (x == y && is_before xs ys) ≡ true = sym (ap (λ (b : Bool). b || (x == y && is_before xs ys)) f) ∙ e in
          inr (eqb-true x y (and_left (x == y) (is_before xs ys) rest), and_right (x == y) (is_before xs ys) rest)
    ] refl

or_first : (a b : Bool) → a ≡ true → (a || b) ≡ true
or_first true b e = refl
or_first false b e = absurd cc

or_second : (a b : Bool) → b ≡ true → (a || b) ≡ true
or_second true b e = refl
or_second false b e = e

lt_test : (x y : ℕ) → x < y → nat_lt x y ≡ true
lt_test x y lt = grind arith

eq_test : (x y : ℕ) → x ≡ y → (x == y) ≡ true
eq_test x y e = grind arith

cons_before : (x y : ℕ) (xs ys : List ℕ) → (x < y) ⊎ ((x ≡ y) × (is_before xs ys ≡ true)) → is_before (x ∷ xs) (y ∷ ys) ≡ true
cons_before x y xs ys (inl lt) = or_first (nat_lt x y) (x == y && is_before xs ys) (lt_test x y lt)
cons_before x y xs ys (inr same) = or_second (nat_lt x y) (x == y && is_before xs ys) (and_both (x == y) (is_before xs ys) (eq_test x y same.0) same.1)

pub before_trans : (xs ys zs : List ℕ) → is_before xs ys ≡ true → is_before ys zs ≡ true → is_before xs zs ≡ true
before_trans xs ys [] p q = absurd cc
before_trans xs [] (z ∷ zs) p q = absurd cc
before_trans [] (y ∷ ys) (z ∷ zs) p q = refl
before_trans (x ∷ xs) (y ∷ ys) (z ∷ zs) p q = cons_before x z xs zs (both (λ a b. before_trans xs ys zs a b) (before_cons x y xs ys p) (before_cons y z ys zs q))
  where
    both : (is_before xs ys ≡ true → is_before ys zs ≡ true → is_before xs zs ≡ true) → (x < y) ⊎ ((x ≡ y) × (is_before xs ys ≡ true)) → (y < z) ⊎ ((y ≡ z) × (is_before ys zs ≡ true)) → (x < z) ⊎ ((x ≡ z) × (is_before xs zs ≡ true))
    both trans (inl lt) (inl more) = inl (omega arith)
    both trans (inl lt) (inr same) = inl (omega (arith, same.0))
    both trans (inr same) (inl lt) = inl (omega (arith, same.0))
    both trans (inr same) (inr more) = inr (same.0 ∙ more.0, trans same.1 more.1)

-- ---- words past a key

past_cons : (k b : ℕ) (key word : List ℕ) → is_past (k ∷ key) (b ∷ word) ≡ true → (k < b) ⊎ ((k ≡ b) × (is_past key word ≡ true))
past_cons k b key word e =
    elim (nat_lt k b) as (λ t. nat_lt k b ≡ t → (k < b) ⊎ ((k ≡ b) × (is_past key word ≡ true))) [
      | true ↦ λ t. inl (ltb-true k b t)
      | false ↦ λ f.
          let rest : (k == b && is_past key word) ≡ true = sym (ap (λ (t : Bool). t || (k == b && is_past key word)) f) ∙ e in
          inr (eqb-true k b (and_left (k == b) (is_past key word) rest), and_right (k == b) (is_past key word) rest)
    ] refl

cons_past : (k b : ℕ) (key word : List ℕ) → (k < b) ⊎ ((k ≡ b) × (is_past key word ≡ true)) → is_past (k ∷ key) (b ∷ word) ≡ true
cons_past k b key word (inl lt) = or_first (nat_lt k b) (k == b && is_past key word) (lt_test k b lt)
cons_past k b key word (inr same) = or_second (nat_lt k b) (k == b && is_past key word) (and_both (k == b) (is_past key word) (eq_test k b same.0) same.1)

-- words after one that is past are past too
pub past_later : (key word next : List ℕ) → is_past key word ≡ true → is_before word next ≡ true → is_past key next ≡ true
past_later [] word next p q = absurd cc
past_later (k ∷ key) [] next p q = absurd cc
past_later (k ∷ key) (b ∷ word) [] p q = absurd cc
past_later (k ∷ key) (b ∷ word) (c ∷ next) p q = cons_past k c key next (both (λ e f. past_later key word next e f) (past_cons k b key word p) (before_cons b c word next q))
  where
    both : (is_past key word ≡ true → is_before word next ≡ true → is_past key next ≡ true) → (k < b) ⊎ ((k ≡ b) × (is_past key word ≡ true)) → (b < c) ⊎ ((b ≡ c) × (is_before word next ≡ true)) → (k < c) ⊎ ((k ≡ c) × (is_past key next ≡ true))
    both later (inl lt) (inl more) = inl (omega arith)
    both later (inl lt) (inr same) = inl (omega (arith, same.0))
    both later (inr same) (inl lt) = inl (omega (arith, same.0))
    both later (inr same) (inr more) = inr (same.0 ∙ more.0, later same.1 more.1)

-- the test of as many bytes as both have
pub past_front : (key word : List ℕ) (n : ℕ) → n ≡ min (length key) (length word) → is_before key (take n word) ≡ is_past key word
past_front [] word zero e = refl
past_front [] word (suc n) e = absurd (omega arith)
past_front (k ∷ key) [] zero e = refl
past_front (k ∷ key) [] (suc n) e = absurd (omega arith)
past_front (k ∷ key) (b ∷ word) zero e = absurd (omega arith)
past_front (k ∷ key) (b ∷ word) (suc n) e = ap (λ (t : Bool). nat_lt k b || (k == b && t)) (past_front key word n (omega arith))

-- ---- words of a name

not_itself : (c : ℕ) → nat_lt c c ≡ false
not_itself c = grind arith

same_itself : (c : ℕ) → (c == c) ≡ true
same_itself c = grind arith

pub named_not_past : (text : List ℕ) → is_past (first_field text) text ≡ false
named_not_past [] = refl
named_not_past (c ∷ text) =
    elim (c == 47) as (λ b. (c == 47) ≡ b → is_past (cond b [] (c ∷ first_field text)) (c ∷ text) ≡ false) [
      | true ↦ λ t. refl
      | false ↦ λ f. rw (not_itself c, same_itself c) (named_not_past text)
    ] refl

pub named_not_before : (text : List ℕ) → is_before text (first_field text) ≡ false
named_not_before [] = refl
named_not_before (c ∷ text) =
    elim (c == 47) as (λ b. (c == 47) ≡ b → is_before (c ∷ text) (cond b [] (c ∷ first_field text)) ≡ false) [
      | true ↦ λ t. refl
      | false ↦ λ f. rw (not_itself c, same_itself c) (named_not_before text)
    ] refl

pub record IsNamed (byte : ℕ) (name word : List ℕ) : Type 0 where
  pub text : List ℕ
  pub word-is : word ≡ byte ∷ text
  pub field : first_field text ≡ name

never : true ≡ false → ⊥
never e = cc

named_in_place : (byte : ℕ) (name word : List ℕ) → IsNamed byte name word → (is_past (byte ∷ name) word ≡ false) × (is_before word (byte ∷ name) ≡ false)
named_in_place byte name word named = (
  (λ i. is_past (byte ∷ sym named.field i) (named.word-is i)) ∙ rw (not_itself byte, same_itself byte) (named_not_past named.text),
  (λ i. is_before (named.word-is i) (byte ∷ sym named.field i)) ∙ rw (not_itself byte, same_itself byte) (named_not_before named.text),
)

-- the byte of a key's word is that of its category
byte_back : (b : ℕ) (text : List ℕ) → is_word (b ∷ text) ≡ true → category_byte (category_at b) ≡ b
byte_back b text key = first (row_word-row_of (b ∷ text) 0 key)
  where
    first : (category_byte (category_at b) ∷ text) ≡ b ∷ text → category_byte (category_at b) ≡ b
    first e = cc

pub admitted_named : (admitted : Category → List ℕ → Bool) (byte : ℕ) (name word : List ℕ) → AdmitsOnly admitted (Some name) → is_word word ≡ true → admits_word (in_category admitted byte) word ≡ true → IsNamed byte name word
admitted_named admitted byte name [] only key e = absurd cc
admitted_named admitted byte name (b ∷ text) only key e =
    let both = and_right (is_utf8 text) (in_category admitted byte (category_at b) text) e in
    let same : category_byte (category_at b) ≡ byte = eqb-true (category_byte (category_at b)) byte (and_right (admitted (category_at b) text) (category_byte (category_at b) == byte) both) in
    record {
      text = text;
      word-is = ap (λ (n : ℕ). n ∷ text) (sym (byte_back b text key) ∙ same);
      field = only (category_at b) text (and_left (admitted (category_at b) text) (category_byte (category_at b) == byte) both);
    }

-- ---- words that aren't among those of a name

module _ (admitted : Category → List ℕ → Bool) (byte : ℕ) (name : List ℕ) (only : AdmitsOnly admitted (Some name)) where
  -- a word out of place isn't admitted
  none_noted : (posting : Posting) → is_word posting.word ≡ true → (is_past (byte ∷ name) posting.word ≡ true) ⊎ (is_before posting.word (byte ∷ name) ≡ true) → noted_in (in_category admitted byte) posting ≡ []
  none_noted posting key apart =
      elim (admits_word (in_category admitted byte) posting.word) as (λ b. admits_word (in_category admitted byte) posting.word ≡ b → cond b posting.numbers [] ≡ []) [
        | true ↦ λ t. absurd (out (named_in_place byte name posting.word (admitted_named admitted byte name posting.word only key t)) apart)
        | false ↦ λ f. refl
      ] refl
    where
      out : (is_past (byte ∷ name) posting.word ≡ false) × (is_before posting.word (byte ∷ name) ≡ false)
          → (is_past (byte ∷ name) posting.word ≡ true) ⊎ (is_before posting.word (byte ∷ name) ≡ true) → ⊥
      out none (inl past) = never (sym past ∙ none.0)
      out none (inr before) = never (sym before ∙ none.1)

  none_after : (range : ℕ) (previous : List ℕ) (postings : List Posting) → are_postings_after range previous postings ≡ true → is_past (byte ∷ name) previous ≡ true → noted (in_category admitted byte) postings ≡ []
  none_after range previous [] legal past = refl
  none_after range previous (posting ∷ postings) legal past =
      let f = follows range previous posting postings legal in
      let here = past_later (byte ∷ name) previous posting.word past f.before in
      (λ i. none_noted posting f.key (inl here) i ++ none_after range posting.word postings f.rest here i)

  pub none_past : (range : ℕ) (previous : List ℕ) (postings : List Posting) → are_postings_after range previous postings ≡ true → BeginsPast (byte ∷ name) postings → noted (in_category admitted byte) postings ≡ []
  none_past range previous [] legal past = refl
  none_past range previous (posting ∷ postings) legal past =
      let f = follows range previous posting postings legal in
      (λ i. none_noted posting f.key (inl past) i ++ none_after range posting.word postings f.rest past i)

  -- later words are greater
  rises : (range : ℕ) (previous : List ℕ) (postings : List Posting) (n : ℕ) (next : Posting) (others : List Posting) → are_postings_after range previous postings ≡ true → drop n postings ≡ next ∷ others → is_before previous next.word ≡ true
  rises range previous [] zero next others legal e = absurd cc
  rises range previous [] (suc n) next others legal e = absurd cc
  rises range previous (posting ∷ postings) zero next others legal e =
      let head : posting ≡ next = cc in
      subst (λ (p : Posting). is_before previous p.word ≡ true) head (follows range previous posting postings legal).before
  rises range previous (posting ∷ postings) (suc n) next others legal e =
      let f = follows range previous posting postings legal in
      before_trans previous posting.word next.word f.before (rises range posting.word postings n next others f.rest e)

  pub none_before : (range : ℕ) (previous : List ℕ) (postings : List Posting) (n : ℕ) (next : Posting) (others : List Posting) → are_postings_after range previous postings ≡ true → drop n postings ≡ next ∷ others
      → is_before next.word (byte ∷ name) ≡ true → noted (in_category admitted byte) (take n postings) ≡ []
  none_before range previous postings zero next others legal e before = refl
  none_before range previous [] (suc n) next others legal e before = refl
  none_before range previous (posting ∷ postings) (suc n) next others legal e before =
      let f = follows range previous posting postings legal in
      let here = before_trans posting.word next.word (byte ∷ name) (rises range posting.word postings n next others f.rest e) before in
      (λ i. none_noted posting f.key (inr here) i ++ none_before range posting.word postings n next others f.rest e before i)

-- ---- numbers of several words

noted-append : (admitted : Category → List ℕ → Bool) (xs ys : List Posting) → noted admitted (xs ++ ys) ≡ noted admitted xs ++ noted admitted ys
noted-append admitted [] ys = refl
noted-append admitted (x ∷ xs) ys = ap (λ (t : List ℕ). noted_in admitted x ++ t) (noted-append admitted xs ys) ∙ sym (append_assoc (noted_in admitted x) (noted admitted xs) (noted admitted ys))

has-append : (xs ys : List ℕ) (k : ℕ) → has (xs ++ ys) k ≡ (has xs k || has ys k)
has-append xs ys k = list_any-append (λ n. n == k) xs ys

or_is : (a b : Bool) → (a || b) ≡ true → (a ≡ true) ⊎ (b ≡ true)
or_is true b e = inl refl
or_is false b e = inr e

-- what is admitted of a category is admitted
word_in : (admitted : Category → List ℕ → Bool) (byte : ℕ) (word : List ℕ) → admits_word (in_category admitted byte) word ≡ true → admits_word admitted word ≡ true
word_in admitted byte [] e = e
word_in admitted byte (b ∷ text) e =
    and_both (is_utf8 text) (admitted (category_at b) text) (and_left (is_utf8 text) (in_category admitted byte (category_at b) text) e)
    (and_left (admitted (category_at b) text) (category_byte (category_at b) == byte) (and_right (is_utf8 text) (in_category admitted byte (category_at b) text) e))

has_if : (a b : Bool) (numbers : List ℕ) (k : ℕ) → (a ≡ true → b ≡ true) → has (cond a numbers []) k ≡ true → has (cond b numbers []) k ≡ true
has_if true true numbers k both h = h
has_if true false numbers k both h = absurd (never (sym (both refl)))
has_if false b numbers k both h = absurd cc

pub noted_wider : (admitted : Category → List ℕ → Bool) (byte : ℕ) (postings : List Posting) (k : ℕ) → has (noted (in_category admitted byte) postings) k ≡ true → has (noted admitted postings) k ≡ true
noted_wider admitted byte [] k h = h
noted_wider admitted byte (posting ∷ postings) k h =
    has-append (noted_in admitted posting) (noted admitted postings) k
    ∙ either (λ there. noted_wider admitted byte postings k there) (or_is (has (noted_in (in_category admitted byte) posting) k) (has (noted (in_category admitted byte) postings) k) (sym (has-append (noted_in (in_category admitted byte) posting) (noted (in_category admitted byte) postings) k) ∙ h))
  where
    either : (has (noted (in_category admitted byte) postings) k ≡ true → has (noted admitted postings) k ≡ true)
        → (has (noted_in (in_category admitted byte) posting) k ≡ true) ⊎ (has (noted (in_category admitted byte) postings) k ≡ true) → (has (noted_in admitted posting) k || has (noted admitted postings) k) ≡ true
    either others (inl here) = or_first _ _ (has_if (admits_word (in_category admitted byte) posting.word) (admits_word admitted posting.word) posting.numbers k (word_in admitted byte posting.word) here)
    either others (inr there) = or_second _ _ (others there)

-- the end of a legal list of words is legal
legal_end : (range : ℕ) (previous : List ℕ) (xs ys : List Posting) → are_postings_after range previous (xs ++ ys) ≡ true → (word : List ℕ) × (are_postings_after range word ys ≡ true)
legal_end range previous [] ys legal = (previous, legal)
legal_end range previous (x ∷ xs) ys legal = legal_end range x.word xs ys (follows range previous x (xs ++ ys) legal).rest

-- the first of these words comes before the key
pub record BeginsBefore (key : List ℕ) (from : List Posting) : Type 0 where
  pub next : Posting
  pub others : List Posting
  pub from-is : from ≡ next ∷ others
  pub before : is_before next.word key ≡ true

-- a walk finds the admitted words of its category
pub finds : (admitted : Category → List ℕ → Bool) (byte : ℕ) (name : List ℕ) (range n : ℕ) (postings from : List Posting) (old new : List ℕ) → AdmitsOnly admitted (Some name) → are_postings_after range [] postings ≡ true
    → from ≡ drop n postings → (n ≡ 0) ⊎ BeginsBefore (byte ∷ name) from
    → Visits admitted (byte ∷ name) from old new → Finds admitted byte postings old new
finds admitted byte name range n postings from old new only legal from-is begins walk = record {
  keeps = λ k h. ap (λ (l : List ℕ). has l k) walk.added ∙ has-append old (noted admitted walk.visited) k ∙ or_first (has old k) (has (noted admitted walk.visited) k) h;
  all = λ k h.
      let visited : has (noted (in_category admitted byte) walk.visited) k ≡ true = ap (λ (l : List ℕ). has l k) (sym among) ∙ h in
      ap (λ (l : List ℕ). has l k) walk.added ∙ has-append old (noted admitted walk.visited) k
      ∙ or_second (has old k) (has (noted admitted walk.visited) k) (noted_wider admitted byte walk.visited k visited);
  only = λ k h. either k (or_is (has old k) (has (noted admitted walk.visited) k) (sym (ap (λ (l : List ℕ). has l k) walk.added ∙ has-append old (noted admitted walk.visited) k) ∙ h));
}
  where
    parts : postings ≡ take n postings ++ (walk.visited ++ walk.skipped)
    parts = sym (take-append-drop n postings) ∙ ap (λ (l : List Posting). take n postings ++ l) (sym from-is ∙ walk.all)

    rest_legal : (word : List ℕ) × (are_postings_after range word walk.skipped ≡ true)
    rest_legal =
        let tail = legal_end range [] (take n postings) (walk.visited ++ walk.skipped) (subst (λ (l : List Posting). are_postings_after range [] l ≡ true) parts legal) in
        legal_end range tail.0 walk.visited walk.skipped tail.1

    before : (n ≡ 0) ⊎ BeginsBefore (byte ∷ name) from → noted (in_category admitted byte) (take n postings) ≡ []
    before (inl none) = ap (λ (m : ℕ). noted (in_category admitted byte) (take m postings)) none
    before (inr some) = none_before admitted byte name only range [] postings n some.next some.others legal (sym from-is ∙ some.from-is) some.before

    among : noted (in_category admitted byte) postings ≡ noted (in_category admitted byte) walk.visited
    among =
        ap (noted (in_category admitted byte)) parts ∙ noted-append (in_category admitted byte) (take n postings) (walk.visited ++ walk.skipped)
        ∙ (λ i. before begins i ++ noted-append (in_category admitted byte) walk.visited walk.skipped i)
        ∙ ap (λ (l : List ℕ). noted (in_category admitted byte) walk.visited ++ l) (none_past admitted byte name only range rest_legal.0 walk.skipped rest_legal.1 walk.past)
        ∙ append-nil (noted (in_category admitted byte) walk.visited)

    whole : noted admitted postings ≡ noted admitted (take n postings) ++ (noted admitted walk.visited ++ noted admitted walk.skipped)
    whole =
        ap (noted admitted) parts ∙ noted-append admitted (take n postings) (walk.visited ++ walk.skipped)
        ∙ ap (λ (l : List ℕ). noted admitted (take n postings) ++ l) (noted-append admitted walk.visited walk.skipped)

    in_whole : (k : ℕ) → has (noted admitted walk.visited) k ≡ true → has (noted admitted postings) k ≡ true
    in_whole k h =
        ap (λ (l : List ℕ). has l k) whole ∙ has-append (noted admitted (take n postings)) (noted admitted walk.visited ++ noted admitted walk.skipped) k
        ∙ or_second (has (noted admitted (take n postings)) k) (has (noted admitted walk.visited ++ noted admitted walk.skipped) k)
        (has-append (noted admitted walk.visited) (noted admitted walk.skipped) k ∙ or_first (has (noted admitted walk.visited) k) (has (noted admitted walk.skipped) k) h)

    either : (k : ℕ) → (has old k ≡ true) ⊎ (has (noted admitted walk.visited) k ≡ true) → (has old k || has (noted admitted postings) k) ≡ true
    either k (inl there) = or_first (has old k) (has (noted admitted postings) k) there
    either k (inr here) = or_second (has old k) (has (noted admitted postings) k) (in_whole k here)

-- ---- all categories

-- the categories below this byte were looked through
pub record Searched (admitted : Category → List ℕ → Bool) (byte : ℕ) (postings : List Posting) (hits : List ℕ) : Type 0 where
  pub only : (k : ℕ) → has hits k ≡ true → has (noted admitted postings) k ≡ true
  pub all : (c k : ℕ) → 1 ≤ c → c < byte → has (noted (in_category admitted c) postings) k ≡ true → has hits k ≡ true

pub searched_none : (admitted : Category → List ℕ → Bool) (postings : List Posting) (hits : List ℕ) → hits ≡ [] → Searched admitted 1 postings hits
searched_none admitted postings hits none = record {
  only = λ k h. absurd (never (sym h ∙ ap (λ (l : List ℕ). has l k) none));
  all = λ c k low high h. absurd (omega arith);
}

pub searched_more : (admitted : Category → List ℕ → Bool) (byte : ℕ) (postings : List Posting) (old new : List ℕ) → Searched admitted byte postings old → Finds admitted byte postings old new → Searched admitted (byte + 1) postings new
searched_more admitted byte postings old new so_far found = record {
  only = λ k h. either k (or_is (has old k) (has (noted admitted postings) k) (found.only k h));
  all = λ c k low high h. by_byte c k low h (cases_lt c byte) high;
}
  where
    either : (k : ℕ) → (has old k ≡ true) ⊎ (has (noted admitted postings) k ≡ true) → has (noted admitted postings) k ≡ true
    either k (inl there) = so_far.only k there
    either k (inr here) = here

    by_byte : (c k : ℕ) → 1 ≤ c → has (noted (in_category admitted c) postings) k ≡ true → (c < byte) ⊎ (byte ≤ c) → c < byte + 1 → has new k ≡ true
    by_byte c k low h (inl lt) high = found.keeps k (so_far.all c k low lt h)
    by_byte c k low h (inr le) high = let same : c ≡ byte = omega arith in found.all k (subst (λ (b : ℕ). has (noted (in_category admitted b) postings) k ≡ true) same h)

-- each admitted word has one of the nine bytes
record InCategory (admitted : Category → List ℕ → Bool) (postings : List Posting) (k : ℕ) : Type 0 where
  byte : ℕ
  low : 1 ≤ byte
  high : byte < 10
  there : has (noted (in_category admitted byte) postings) k ≡ true

word_category : (admitted : Category → List ℕ → Bool) (word numbers : List ℕ) (k : ℕ) → is_word word ≡ true → has (cond (admits_word admitted word) numbers []) k ≡ true
    → (byte : ℕ) × (1 ≤ byte) × (byte < 10) × (has (cond (admits_word (in_category admitted byte) word) numbers []) k ≡ true)
word_category admitted [] numbers k key h = absurd cc
word_category admitted (b ∷ text) numbers k key h =
    let bounds = and_left (nat_le 1 b && nat_le b 9) (is_key (category_at b) text) key in
    let low : 1 ≤ b = leb-true 1 b (and_left (nat_le 1 b) (nat_le b 9) bounds) in
    let high : b ≤ 9 = leb-true b 9 (and_right (nat_le 1 b) (nat_le b 9) bounds) in
    let same : (category_byte (category_at b) == b) ≡ true = eq_test (category_byte (category_at b)) b (byte_back b text key) in (
      b,
      low,
      omega arith,
      has_if (admits_word admitted (b ∷ text)) (admits_word (in_category admitted b) (b ∷ text)) numbers k (λ t.
          and_both (is_utf8 text) (in_category admitted b (category_at b) text) (and_left (is_utf8 text) (admitted (category_at b) text) t)
          (and_both (admitted (category_at b) text) (category_byte (category_at b) == b) (and_right (is_utf8 text) (admitted (category_at b) text) t) same)) h,
    )

any_category : (admitted : Category → List ℕ → Bool) (range : ℕ) (previous : List ℕ) (postings : List Posting) (k : ℕ) → are_postings_after range previous postings ≡ true → has (noted admitted postings) k ≡ true → InCategory admitted postings k
any_category admitted range previous [] k legal h = absurd cc
any_category admitted range previous (posting ∷ postings) k legal h = either (λ there. any_category admitted range posting.word postings k (follows range previous posting postings legal).rest there) (or_is (has (noted_in admitted posting) k) (has (noted admitted postings) k) (sym (has-append (noted_in admitted posting) (noted admitted postings) k) ∙ h))
  where
    either : (has (noted admitted postings) k ≡ true → InCategory admitted postings k) → (has (noted_in admitted posting) k ≡ true) ⊎ (has (noted admitted postings) k ≡ true) → InCategory admitted (posting ∷ postings) k
    either others (inl here) =
        let w = word_category admitted posting.word posting.numbers k (follows range previous posting postings legal).key here in
        record {
          byte = w.0;
          low = w.1;
          high = w.2;
          there = has-append (noted_in (in_category admitted w.0) posting) (noted (in_category admitted w.0) postings) k ∙ or_first _ _ w.3;
        }
    either others (inr there) =
        let w = others there in
        record {
          byte = w.byte;
          low = w.low;
          high = w.high;
          there = has-append (noted_in (in_category admitted w.byte) posting) (noted (in_category admitted w.byte) postings) k ∙ or_second _ _ w.there;
        }

same_test : (a b : Bool) → (a ≡ true → b ≡ true) → (b ≡ true → a ≡ true) → a ≡ b
same_test true b to back = sym (to refl)
same_test false true to back = back refl
same_test false false to back = refl

pub searched_all : (admitted : Category → List ℕ → Bool) (range byte : ℕ) (postings : List Posting) (hits : List ℕ) (k : ℕ) → 10 ≤ byte → are_postings_after range [] postings ≡ true → Searched admitted byte postings hits → has hits k ≡ has (noted admitted postings) k
searched_all admitted range byte postings hits k end legal so_far =
    same_test (has hits k) (has (noted admitted postings) k) (so_far.only k)
    (λ h. let w = any_category admitted range [] postings k legal h in so_far.all w.byte k w.low (omega (arith, w.high)) w.there)
