-- How often a byte stands in a slice: as often as it has places.
use Rattle.std.proofs.Common.{◌≡◌, ◌+◌, ◌-◌, ◌∷◌, ℕ, zero, suc, Bool, true, false, cond, List, drop, length, count_by, slice_index, arith, sym, ◌∙◌, ap}
use Rattle.std.proofs.lemmas.List.{drop_all}
use Rattle.std.proofs.lemmas.List.Sums.{sum_by-drop_more}
use Rattle.memchr.specs.Find.{places, places_from}

length-cond : (b : Bool) (i : ℕ) (later : List ℕ) → length (cond b (i ∷ later) later) ≡ cond b 1 0 + length later
length-cond true i later = omega (arith)
length-cond false i later = omega (arith)

module _ (test : ℕ → Bool) (hay : List ℕ) where
  length-places_from : (n i : ℕ) → i + n ≡ length hay → length (places_from test hay i n) ≡ count_by test (drop i hay)
  unfolding places_from
  length-places_from zero i here = sym (ap (count_by test) (drop_all i hay (omega (arith, here))))
  length-places_from (suc n) i here =
      length-cond (test (slice_index hay i)) i (places_from test hay (i + 1) n)
      ∙ ap (λ count. cond (test (slice_index hay i)) 1 0 + count) (length-places_from n (i + 1) (omega (arith, here)))
      ∙ sym (sum_by-drop_more (λ x. cond (test x) 1 0) hay i 0 (omega (arith, here)))

pub length-places : (test : ℕ → Bool) (hay : List ℕ) → length (places test hay) ≡ count_by test hay
length-places test hay = length-places_from test hay (length hay - 0) 0 (omega (arith))
