-- The numbers of types by the offsets of their `{`.
use Rattle.std.proofs.Common.{◌≡◌, ◌+◌, ◌<◌, ◌≤◌, ◌==◌, ℕ, suc, true, false, cond, nat_lt, nat_cmp, List, [], ◌∷◌, ◌++◌, Option, Some, None, Result, Ok, Err, length, get_or, take, inl, inr, refl, sym, ap, ◌∙◌, subst, arith}
use Rattle.std.specs.List.Sorted.{IsBinarySearchResult}
use Rattle.std.proofs.Math.Seq.{take-suc}
use Rattle.std.proofs.lemmas.Bool.{eq-eqb, ne_eqb, lt-ltb, le-ltb, cases_lt}
use Rattle.std.proofs.Math.Nat.{eq-or-lt_of_le}
use Rattle.std.proofs.lemmas.List.Sorted.{searched}
use Rattle.std.proofs.lemmas.List.Sums.{position_or_len_is}
use Rattle.java_model.specs.Outlines.{put_number}
use Rattle.java_document.specs.Outlining.{Rises, number_in, numbers_in}

put_behind : (n : Option ℕ) (ms ns : List ℕ) → put_number n (ms ++ ns) ≡ put_number n ms ++ ns
put_behind None ms ns = refl
put_behind (Some n) ms ns = refl

numbers-more : (braces xs : List ℕ) (x : ℕ) → numbers_in braces (xs ++ x ∷ []) ≡ numbers_in braces xs ++ put_number (number_in braces x) []
numbers-more braces [] x = refl
numbers-more braces (y ∷ xs) x =
    ap (put_number (number_in braces y)) (numbers-more braces xs x) ∙ put_behind (number_in braces y) (numbers_in braces xs) (put_number (number_in braces x) [])

pub numbers_next : (braces xs : List ℕ) (i x : ℕ) → i < length xs → numbers_in braces (take (i + 1) xs) ≡ numbers_in braces (take i xs) ++ put_number (number_in braces (get_or xs i x)) []
numbers_next braces xs i x h =
    let next : i + 1 ≡ suc i = omega arith in
    ap (λ n. numbers_in braces (take n xs)) next ∙ ap (numbers_in braces) (take-suc xs i x h) ∙ numbers-more braces (take i xs) (get_or xs i x)

pub numbers_step : (braces xs : List ℕ) (i x : ℕ) (b c : List ℕ) → i < length xs → b ≡ numbers_in braces (take i xs) → c ≡ b ++ put_number (number_in braces (get_or xs i x)) []
    → c ≡ numbers_in braces (take (i + 1) xs)
numbers_step braces xs i x b c h e f = f ∙ ap (λ ns. ns ++ put_number (number_in braces (get_or xs i x)) []) e ∙ sym (numbers_next braces xs i x h)

never_behind : (xs : List ℕ) → Rises xs → (i j : ℕ) → i ≤ j → j < length xs → get_or xs i 0 ≤ get_or xs j 0
never_behind xs r i j le lt = elim (eq-or-lt_of_le le) as (λ _. get_or xs i 0 ≤ get_or xs j 0) [
  | inl e ↦ let same = ap (λ n. get_or xs n 0) e in omega (arith, same)
  | inr h ↦ let b = r.below i j h lt in omega (arith, b)
]

pub found_number : (xs : List ℕ) (x i : ℕ) (r : Result ℕ ℕ) → r ≡ Ok i → Rises xs → IsBinarySearchResult (λ y. nat_cmp y x) xs r → Some i ≡ number_in xs x
found_number xs x i r e rises b =
    let s = searched xs x (Ok i) (subst (IsBinarySearchResult (λ y. nat_cmp y x) xs) e b) (never_behind xs rises) in
    let within : i ≤ length xs = let h = s.0 in omega (arith, h) in
    let first = position_or_len_is (λ y. y == x) xs i 0 within
    (λ k h. ne_eqb (get_or xs k 0) x (λ q. let lower = rises.below k i h s.0 in let at = s.1 in absurd (omega (arith, lower, at, q))))
    (λ h. eq-eqb (get_or xs i 0) x s.1) in
    let test : nat_lt i (length xs) ≡ true = lt-ltb i (length xs) s.0 in
    sym (ap (λ n. cond (nat_lt n (length xs)) (Some n) None) first ∙ ap (λ b. cond b (Some i) None) test)

pub no_number : (xs : List ℕ) (x i : ℕ) (r : Result ℕ ℕ) → r ≡ Err i → Rises xs → IsBinarySearchResult (λ y. nat_cmp y x) xs r → None ≡ number_in xs x
no_number xs x i r e rises b =
    let s = searched xs x (Err i) (subst (IsBinarySearchResult (λ y. nat_cmp y x) xs) e b) (never_behind xs rises) in
    let all : length xs ≤ length xs = omega arith in
    let first = position_or_len_is (λ y. y == x) xs (length xs) 0 all
    (λ k h. ne_eqb (get_or xs k 0) x (λ q. elim (cases_lt k i) as (λ _. ⊥) [
      | inl lt ↦ let lower = s.1 k lt in absurd (omega (arith, lower, q))
      | inr le ↦ let higher = s.2 k le h in absurd (omega (arith, higher, q))
    ]))
    (λ h. absurd (omega (arith, h))) in
    let test : nat_lt (length xs) (length xs) ≡ false = le-ltb (length xs) (length xs) all in
    sym (ap (λ n. cond (nat_lt n (length xs)) (Some n) None) first ∙ ap (λ b. cond b (Some (length xs)) None) test)
