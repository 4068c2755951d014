-- The order of texts by their bytes, as a test and as a comparison.
use Rattle.std.proofs.Common.{◌≡◌, ℕ, Bool, true, false, cond, List, [], ◌∷◌, refl, ap, ◌∙◌}
use Rattle.std.specs.Prelude.{◌&&◌, ◌||◌, nat_lt, ◌==◌}
use Rattle.std.specs.Ordering.{nat_cmp, ordering_then, is_lt}
use Rattle.std.specs.declared.cmp.Ordering.{Ordering}
use Rattle.std.specs.declared.cmp.Ordering.TheVariants.{Less, Equal, Greater}
use Rattle.std.specs.Cmp.Lexicographic.{slice_cmp}
use Rattle.java_tree.specs.Keys.{is_before}

first_byte : (x y : ℕ) (r : Ordering) → is_lt (ordering_then (nat_cmp x y) r) ≡ (nat_lt x y || (x == y && is_lt r))
first_byte x y r = by_tests (nat_lt x y) (x == y) r
  where
    by_tests : (a b : Bool) (r : Ordering) → is_lt (ordering_then (cond a Less (cond b Equal Greater)) r) ≡ (a || (b && is_lt r))
    by_tests true b r = refl
    by_tests false true r = refl
    by_tests false false r = refl

pub is_before-cmp : (xs ys : List ℕ) → is_lt (slice_cmp nat_cmp xs ys) ≡ is_before xs ys
is_before-cmp [] [] = refl
is_before-cmp [] (y ∷ ys) = refl
is_before-cmp (x ∷ xs) [] = refl
is_before-cmp (x ∷ xs) (y ∷ ys) = first_byte x y (slice_cmp nat_cmp xs ys) ∙ ap (λ (b : Bool). nat_lt x y || (x == y && b)) (is_before-cmp xs ys)

pub before : (xs ys : List ℕ) (r : Ordering) → r ≡ slice_cmp nat_cmp xs ys → is_lt r ≡ is_before xs ys
before xs ys r e = ap is_lt e ∙ is_before-cmp xs ys
