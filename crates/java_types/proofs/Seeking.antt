-- The first element that fits, found from the least number of its key on.
use Rattle.std.proofs.Common.{◌≡◌, ◌+◌, ◌-◌, ◌<◌, ◌≤◌, ℕ, zero, suc, Bool, true, false, cond, List, [], ◌∷◌, Option, Some, None, length, drop, position, refl, sym, ap, ◌∙◌, subst, arith, true≢false}
use Rattle.std.specs.Prelude.{slice_get}
use Rattle.std.specs.List.{position_from}
use Rattle.std.specs.Option.{option_map_or}
use Rattle.std.proofs.lemmas.Iterator.Adapters.{position_from-zero}
use Rattle.std.proofs.lemmas.List.{drop_all}
use Rattle.std.proofs.lemmas.Option.{none-some, same_Some}
use Rattle.java_types.specs.Tables.{Keys, has_key, is_keyed, first_from, HaveKey}
use Rattle.java_types.proofs.Paths.{not_true}

pub at_drop : {X : Type 0} (xs : List X) (n : ℕ) → n < length xs → (x : X) × (slice_get xs n ≡ Some x) × (drop n xs ≡ x ∷ drop (suc n) xs)
at_drop [] n h = absurd (omega (arith, h))
at_drop (x ∷ xs) zero h = (x, refl, refl)
at_drop (x ∷ xs) (suc n) h = at_drop xs n (omega (arith, h))

pub position_at : {X : Type 0} (test : X → Bool) (xs : List X) (n : ℕ) (x : X) → drop n xs ≡ x ∷ drop (suc n) xs
    → position_from test n (drop n xs) ≡ cond (test x) (Some n) (position_from test (suc n) (drop (suc n) xs))
position_at test xs n x e =
    let one : n + 1 ≡ suc n = omega arith in
    ap (position_from test n) e ∙ ap (λ m. cond (test x) (Some n) (position_from test m (drop (suc n) xs))) one

position_past : {X : Type 0} (test : X → Bool) (xs : List X) (n : ℕ) → length xs ≤ n → position_from test n (drop n xs) ≡ None
position_past test xs n h = ap (position_from test n) (drop_all n xs h)

-- ---- numbers with a key

pub keyed_at : (keys : Keys) (k n : ℕ) (key : Option ℕ) → slice_get keys n ≡ Some key → is_keyed keys k n ≡ has_key k key
keyed_at keys k n key e = ap (λ o. option_map_or (has_key k) o false) e

pub first_at : (keys : Keys) (k n : ℕ) → n < length keys → first_from keys k n ≡ cond (is_keyed keys k n) (Some n) (first_from keys k (suc n))
first_at keys k n h =
    let at = at_drop keys n h in
    position_at (has_key k) keys n at.0 at.2 ∙ ap (λ b. cond b (Some n) (first_from keys k (suc n))) (sym (keyed_at keys k n at.0 at.1))

pub record IsNext (keys : Keys) (k m n : ℕ) : Type 0 where
  pub later : m ≤ n
  pub within : n < length keys
  pub keyed : is_keyed keys k n ≡ true

next_of : (keys : Keys) (k c m n : ℕ) → m + c ≡ length keys → first_from keys k m ≡ Some n → IsNext keys k m n
next_of keys k zero m n e f = absurd (none-some n (sym (position_past (has_key k) keys m (omega (arith, e))) ∙ f))
next_of keys k (suc c) m n e f =
    by (is_keyed keys k m) refl (next_of keys k c (suc m) n (omega (arith, e))) (sym (first_at keys k m (omega (arith, e))) ∙ f)
  where
    by : (b : Bool) → is_keyed keys k m ≡ b → (first_from keys k (suc m) ≡ Some n → IsNext keys k (suc m) n)
        → cond b (Some m) (first_from keys k (suc m)) ≡ Some n → IsNext keys k m n
    by true t rest g = let same = same_Some m n g in
        record { later = omega (arith, same); within = omega (arith, same, e); keyed = subst (λ j. is_keyed keys k j ≡ true) same t }
    by false t rest g = let r = rest g in let l = r.later in record { later = omega (arith, l); within = r.within; keyed = r.keyed }

pub next_from : (keys : Keys) (k m n : ℕ) → m ≤ length keys → first_from keys k m ≡ Some n → IsNext keys k m n
next_from keys k m n h = next_of keys k (length keys - m) m n (omega (arith, h))

-- how many numbers are left
abbrev pub left_of : ℕ → Option ℕ → ℕ
left_of many next = option_map_or (λ n. many - n) next 0

less_left : (keys : Keys) (k n : ℕ) (o : Option ℕ) → n < length keys → first_from keys k (suc n) ≡ o → left_of (length keys) o < length keys - n
less_left keys k n None h e = omega (arith, h)
less_left keys k n (Some m) h e = let r = next_from keys k (suc n) m h e in let l = r.later in omega (arith, h, l)

-- ---- what is sought

module _ {X : Type 0} where
  abbrev from : (X → Bool) → List X → Option ℕ → Option ℕ
  from test xs None = None
  from test xs (Some n) = position_from test n (drop n xs)

  -- Before the next number with the key nothing fits.
  skipped : (test : X → Bool) (xs : List X) (keys : Keys) (k c m : ℕ) → HaveKey test xs keys k → length keys ≡ length xs → m + c ≡ length keys
      → position_from test m (drop m xs) ≡ from test xs (first_from keys k m)
  skipped test xs keys k zero m have same e =
      position_past test xs m (omega (arith, same, e)) ∙ sym (ap (from test xs) (position_past (has_key k) keys m (omega (arith, e))))
  skipped test xs keys k (suc c) m have same e =
      by (is_keyed keys k m) refl (skipped test xs keys k c (suc m) have same (omega (arith, e)))
      ∙ sym (ap (from test xs) (first_at keys k m (omega (arith, e))))
    where
      by : (b : Bool) → is_keyed keys k m ≡ b → position_from test (suc m) (drop (suc m) xs) ≡ from test xs (first_from keys k (suc m))
          → position_from test m (drop m xs) ≡ from test xs (cond b (Some m) (first_from keys k (suc m)))
      by true t rest = refl
      by false t rest =
          let at = at_drop xs m (omega (arith, same, e)) in
          let fails = not_true (test at.0) (λ fits. true≢false (sym (have m at.0 at.1 fits) ∙ t)) in
          position_at test xs m at.0 at.2 ∙ ap (λ b. cond b (Some m) (position_from test (suc m) (drop (suc m) xs))) fails ∙ rest

  -- Below a bound nothing fits, and the next number of the key is from it on.
  pub record SoughtFrom (Gives : (X → Bool) → Type 0) (xs : List X) (keys : Keys) (k : ℕ) (next : Option ℕ) : Type 0 where
    pub bound : ℕ
    pub same : length keys ≡ length xs
    pub within : bound ≤ length keys
    pub next_is : next ≡ first_from keys k bound
    pub left : (test : X → Bool) → Gives test → HaveKey test xs keys k → position test xs ≡ position_from test bound (drop bound xs)

  module _ (Gives : (X → Bool) → Type 0) (xs : List X) (keys : Keys) (k : ℕ) where
    pub sought_none : (next : Option ℕ) → length keys ≡ length xs → next ≡ first_from keys k 0 → SoughtFrom Gives xs keys k next
    sought_none next same e = record {
      bound = 0;
      same = same;
      within = omega arith;
      next_is = e;
      left = λ test gives have. position_from-zero test xs;
    }

    pub sought_keyed : (n : ℕ) (next : Option ℕ) → SoughtFrom Gives xs keys k next → next ≡ Some n → (n < length xs) × (is_keyed keys k n ≡ true)
    sought_keyed n next so e =
        let r = next_from keys k so.bound n so.within (sym so.next_is ∙ e) in let w = r.within in let s = so.same in (omega (arith, w, s), r.keyed)

    pub sought_less : (n : ℕ) (next next' : Option ℕ) → SoughtFrom Gives xs keys k next → next ≡ Some n → next' ≡ first_from keys k (n + 1)
        → left_of (length xs) next' < left_of (length xs) next
    sought_less n next next' so e f =
        let here = sought_keyed n next so e in let s = so.same in let one : n + 1 ≡ suc n = omega arith in
        let less = less_left keys k n next' (omega (arith, here, s)) (ap (first_from keys k) (sym one) ∙ sym f) in
        let now = ap (left_of (length keys)) e in
        subst (λ m. left_of m next' < left_of m next) so.same (omega (arith, less, now))

    sought_at : (n : ℕ) (x : X) (next : Option ℕ) (r : Bool) → SoughtFrom Gives xs keys k next → next ≡ Some n → slice_get xs n ≡ Some x
        → (test : X → Bool) → r ≡ test x → Gives test → HaveKey test xs keys k → position test xs ≡ cond r (Some n) (position_from test (suc n) (drop (suc n) xs))
    sought_at n x next r so e item test says gives have =
        let at = at_drop xs n (sought_keyed n next so e).0 in
        let within = so.within in
        so.left test gives have ∙ skipped test xs keys k (length keys - so.bound) so.bound have so.same (omega (arith, within)) ∙ ap (from test xs) (sym so.next_is ∙ e)
        ∙ position_at test xs n at.0 at.2
        ∙ ap (λ b. cond b (Some n) (position_from test (suc n) (drop (suc n) xs))) (ap test (same_Some at.0 x (sym at.1 ∙ item)) ∙ sym says)

    pub sought_found : (n : ℕ) (x : X) (next : Option ℕ) (r : Bool) → SoughtFrom Gives xs keys k next → next ≡ Some n → slice_get xs n ≡ Some x → r ≡ true
        → ((test : X → Bool) → Gives test → r ≡ test x) → (test : X → Bool) → Gives test → HaveKey test xs keys k → Some n ≡ position test xs
    sought_found n x next r so e item fits says test gives have =
        sym (sought_at n x next r so e item test (says test gives) gives have ∙ ap (λ b. cond b (Some n) (position_from test (suc n) (drop (suc n) xs))) fits)

    pub sought_next : (n : ℕ) (x : X) (next next' : Option ℕ) (r : Bool) → SoughtFrom Gives xs keys k next → next ≡ Some n → slice_get xs n ≡ Some x → r ≡ false
        → ((test : X → Bool) → Gives test → r ≡ test x) → next' ≡ first_from keys k (n + 1) → SoughtFrom Gives xs keys k next'
    sought_next n x next next' r so e item fails says f =
        let here = sought_keyed n next so e in let s = so.same in let one : n + 1 ≡ suc n = omega arith in
        record {
          bound = suc n;
          same = so.same;
          within = omega (arith, here, s);
          next_is = f ∙ ap (first_from keys k) one;
          left = λ test gives have.
              sought_at n x next r so e item test (says test gives) gives have ∙ ap (λ b. cond b (Some n) (position_from test (suc n) (drop (suc n) xs))) fails;
        }

    pub sought_all : (next : Option ℕ) → SoughtFrom Gives xs keys k next → next ≡ None → (test : X → Bool) → Gives test → HaveKey test xs keys k → None ≡ position test xs
    sought_all next so e test gives have =
        let within = so.within in
        sym (so.left test gives have ∙ skipped test xs keys k (length keys - so.bound) so.bound have so.same (omega (arith, within)) ∙ ap (from test xs) (sym so.next_is ∙ e))
