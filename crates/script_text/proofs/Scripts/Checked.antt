-- Names of their own.
use Rattle.std.proofs.Common.{◌≡◌, ℕ, true, List, sym, ap, subst}
use Rattle.std.specs.Cmp.Lexicographic.{slice_cmp}
use Rattle.std.specs.List.{IsDistinct}
use Rattle.std.specs.List.Sorted.{IsPermutation}
use Rattle.std.specs.Ordering.{nat_cmp, eq_by_cmp}
use Rattle.std.specs.Str.{bytes_eq}
use Rattle.std.proofs.lemmas.Cmp.{nat_list_cmp_total, eq_by_cmp_equiv}
use Rattle.std.proofs.lemmas.List.Sorted.{IsPermutation-sym}
use Rattle.std.proofs.lemmas.Map.Keys.{IsDistinct-IsPermutation, IsDistinct-from_sorted}
use Rattle.std.proofs.lemmas.Map.Text.{is_eq-slice_cmp}
use Rattle.script_text.specs.Inner.Sorted.{rises}
use Rattle.script_text.proofs.SortedDocuments.{sorted_from_rises}

-- names differ by their order just where they differ by their bytes
same_test : IsDistinct (eq_by_cmp (slice_cmp nat_cmp)) ≡ IsDistinct bytes_eq
same_test = ap IsDistinct (λ i x y. is_eq-slice_cmp x y i)

pub own_names : (names sorted : List (List ℕ)) → IsPermutation names sorted → rises (slice_cmp nat_cmp) sorted ≡ true → IsDistinct bytes_eq names
own_names names sorted moved up =
    let apart = IsDistinct-from_sorted (slice_cmp nat_cmp) sorted (sorted_from_rises nat_list_cmp_total sorted up) in
    let back = IsDistinct-IsPermutation (eq_by_cmp (slice_cmp nat_cmp)) ((eq_by_cmp_equiv nat_list_cmp_total).symm) sorted names (IsPermutation-sym names sorted moved) apart in
    subst (λ (P : List (List ℕ) → Type 0). P names) same_test back

pub ordered_names : (names sorted : List (List ℕ)) → IsPermutation names sorted → IsDistinct bytes_eq names → IsDistinct (eq_by_cmp (slice_cmp nat_cmp)) sorted
ordered_names names sorted moved own =
    IsDistinct-IsPermutation (eq_by_cmp (slice_cmp nat_cmp)) ((eq_by_cmp_equiv nat_list_cmp_total).symm) names sorted moved (subst (λ (P : List (List ℕ) → Type 0). P names) (sym same_test) own)
