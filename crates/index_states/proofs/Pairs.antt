-- Cells of pairs, one after another.
use Rattle.std.proofs.Common.{◌≡◌, inl, inr, ℕ, ◌+◌, List, [], ◌∷◌, ◌++◌, length, get_or, Option, None, sym, ap, subst, arith, length-append}
use Rattle.std.proofs.lemmas.List.{get_or_append_left, get_or_push}
use Rattle.std.proofs.lemmas.Bool.{cases_lt}
use Rattle.index_states.specs.Loaded.{EachBelow}
use Rattle.index_states.specs.declared.cell.Cell.{Cell}

pub pushed : (P : ℕ → Option Cell → Type 0) (count : ℕ) (cells new : List (Option Cell)) (cell : Option Cell) → EachBelow P count cells → P count cell → new ≡ cells ++ cell ∷ []
    → EachBelow P (count + 1) new
pushed P count cells new cell below is more = subst (EachBelow P (count + 1)) (sym more) (record {
  long = omega (arith, length-append cells (cell ∷ []), below.long);
  each = λ pair low. elim (cases_lt pair count) [
    | inl under ↦ subst (P pair) (sym (get_or_append_left cells (cell ∷ []) None pair (omega (arith, below.long)))) (below.each pair under)
    | inr over ↦
        let here : pair ≡ count = omega arith in
        subst (λ (q : ℕ). P q (get_or (cells ++ cell ∷ []) q None)) (sym here) (subst (P count) (sym (get_or_push cells cell None count below.long)) is)
  ];
})

pub none_yet : (P : ℕ → Option Cell → Type 0) (cells : List (Option Cell)) → cells ≡ [] → EachBelow P 0 cells
none_yet P cells is = record { long = ap length is; each = λ pair low. absurd (omega arith) }

pub all_pairs : (P : ℕ → Option Cell → Type 0) (count : ℕ) (cells : List (Option Cell)) → count ≡ 256 → EachBelow P count cells → EachBelow P 256 cells
all_pairs P count cells whole below = subst (λ (n : ℕ). EachBelow P n cells) whole below
