-- Documents that are sorted, and have their own names, rise strictly.
use Rattle.std.proofs.Common.{◌≡◌, ℕ, suc, ◌+◌, ◌<◌, true, false, List, [], ◌∷◌, length, get_or, refl, add-one, arith}
use native.Mathlib.Numerals.{unary_clauses}
use Rattle.std.specs.Prelude.{map}
use Rattle.std.specs.declared.cmp.Ordering.{Ordering}
use Rattle.std.specs.declared.cmp.Ordering.TheVariants.{Less, Equal, Greater}
use Rattle.std.specs.Ordering.{is_lt, is_eq, eq_by_cmp, ordering_reverse}
use Rattle.std.specs.Cmp.{IsTotalOrder}
use Rattle.std.specs.List.{AllByRecursion, IsDistinct}
use Rattle.std.specs.List.Sorted.{IsStrictlySortedBy}
use Rattle.std.proofs.lemmas.Bool.{and_parts}
use Rattle.std.proofs.lemmas.Cmp.{nat_list_cmp_total, then_total, on_total}
use Rattle.std.proofs.lemmas.Map.Keys.{IsDistinct-head, IsDistinct-tail}
use Rattle.java_model.specs.Documents.{Document, document_cmp}
use Rattle.script_text.specs.Inner.Sorted.{rises}

pub document_total : IsTotalOrder document_cmp
document_total = then_total (on_total (λ (d : Document). d.container) nat_list_cmp_total) (on_total (λ (d : Document). d.path) nat_list_cmp_total)

pub rises-short : {K : Type 0} (cmp : K → K → Ordering) (xs : List K) → length xs < 2 → rises cmp xs ≡ true
rises-short cmp [] lt = refl
rises-short cmp (x ∷ []) lt = refl
rises-short cmp (x ∷ y ∷ xs) lt = absurd (omega arith)

less_from : (r : Ordering) → is_lt r ≡ true → r ≡ Less
less_from Less e = refl
less_from Equal e = absurd cc
less_from Greater e = absurd cc

all_above : {K : Type 0} {cmp : K → K → Ordering} (o : IsTotalOrder cmp) (x y : K) (xs : List K) → cmp x y ≡ Less → AllByRecursion (λ z. cmp y z ≡ Less) xs → AllByRecursion (λ z. cmp x z ≡ Less) xs
all_above o x y [] e all = tt
all_above o x y (z ∷ zs) e all = (o.trans x y z e all.0, all_above o x y zs e all.1)

pub sorted_from_rises : {K : Type 0} {cmp : K → K → Ordering} (o : IsTotalOrder cmp) (xs : List K) → rises cmp xs ≡ true → IsStrictlySortedBy cmp xs
unfolding IsStrictlySortedBy
sorted_from_rises o [] h = tt
sorted_from_rises o (x ∷ []) h = (tt, tt)
sorted_from_rises {K} {cmp} o (x ∷ y ∷ xs) h =
    let parts = and_parts (is_lt (cmp x y)) (rises cmp (y ∷ xs)) h in
    let below = less_from (cmp x y) parts.0 in
    let rest = sorted_from_rises o (y ∷ xs) parts.1 in
    ((below, all_above o x y xs below rest.0), rest)

-- what is neither above nor equal is below
less : (r s : Ordering) → r ≡ ordering_reverse s → is_lt s ≡ false → is_eq r ≡ false → is_lt r ≡ true
less Less s e a b = refl
less Equal s e a b = absurd cc
less Greater Less e a b = absurd cc
less Greater Equal e a b = absurd cc
less Greater Greater e a b = absurd cc

pub rises_from_sorted : {X K : Type 0} (f : X → K) {cmp : K → K → Ordering} (o : IsTotalOrder cmp) (xs : List X)
    → ((k : ℕ) (d : X) → k + 1 < length xs → is_lt (cmp (f (get_or xs (k + 1) d)) (f (get_or xs k d))) ≡ false)
    → IsDistinct (eq_by_cmp cmp) (map f xs) → rises cmp (map f xs) ≡ true
rises_from_sorted f o [] sorted own = refl
rises_from_sorted f o (x ∷ []) sorted own = refl
rises_from_sorted f {cmp} o (x ∷ y ∷ xs) sorted own =
    let differ = (IsDistinct-head (eq_by_cmp cmp) (f x) (map f (y ∷ xs)) own).0 in
    let first : is_lt (cmp (f x) (f y)) ≡ true = less (cmp (f x) (f y)) (cmp (f y) (f x)) (o.antisymm (f x) (f y)) (sorted 0 x (omega arith)) differ in
    let rest : rises cmp (map f (y ∷ xs)) ≡ true =
    rises_from_sorted f o (y ∷ xs) (λ k d lt. rw add-one (simp unary_clauses at (sorted (suc k) d (omega arith)))) (IsDistinct-tail (eq_by_cmp cmp) (f x) (map f (y ∷ xs)) own) in
    rw (first, rest) refl
