use Rattle.std.proofs.Common.{◌≡◌, inl, inr, ℕ, ◌+◌, ◌-◌, List, min, length, take, drop, ap, ◌∙◌, sym, arith, length-drop}
use Rattle.std.proofs.lemmas.List.{take_all, drop_all, drop-drop}
use Rattle.std.proofs.lemmas.Bool.{cases_lt}
use Rattle.java_model.specs.StateFile.Cells as cells
use Rattle.index_states.proofs.reading.name_in.Goals as goal

-- past a list's end there is no more
take_min : (n : ℕ) (l : List ℕ) → take (min (length l) n) l ≡ take n l
take_min n l = elim (cases_lt n (length l)) [
  | inl below ↦ ap (λ (k : ℕ). take k l) (let e : min (length l) n ≡ n = omega arith in e)
  | inr past ↦ take_all (min (length l) n) l (omega arith) ∙ sym (take_all n l (omega arith))
]

drop_min : (n : ℕ) (l : List ℕ) → drop (min (length l) n) l ≡ drop n l
drop_min n l = elim (cases_lt n (length l)) [
  | inl below ↦ ap (λ (k : ℕ). drop k l) (let e : min (length l) n ≡ n = omega arith in e)
  | inr past ↦ drop_all (min (length l) n) l (omega arith) ∙ sym (drop_all n l (omega arith))
]

-- what was split off is named by what stands after the first bytes
split_name : (cell front : List ℕ) (at n : ℕ) → length cell ≡ 256 → at ≡ min (length (take (length cell - 19) (drop 19 cell))) n → front ≡ take at (take (length cell - 19) (drop 19 cell)) → front ≡ take n (drop 19 cell)
split_name cell front at n long is split =
    let whole : take (length cell - 19) (drop 19 cell) ≡ drop 19 cell = take_all (length cell - 19) (drop 19 cell) (omega (arith, length-drop 19 cell)) in
    split ∙ ap (λ (k : ℕ). take k (take (length cell - 19) (drop 19 cell))) is
    ∙ ap (λ (l : List ℕ). take (min (length l) n) l) whole ∙ take_min n (drop 19 cell)

split_rest : (cell back : List ℕ) (at n : ℕ) → length cell ≡ 256 → at ≡ min (length (take (length cell - 19) (drop 19 cell))) n → back ≡ drop at (take (length cell - 19) (drop 19 cell)) → back ≡ drop (19 + n) cell
split_rest cell back at n long is split =
    let whole : take (length cell - 19) (drop 19 cell) ≡ drop 19 cell = take_all (length cell - 19) (drop 19 cell) (omega (arith, length-drop 19 cell)) in
    split ∙ ap (λ (k : ℕ). drop k (take (length cell - 19) (drop 19 cell))) is
    ∙ ap (λ (l : List ℕ). drop (min (length l) n) l) whole ∙ drop_min n (drop 19 cell) ∙ drop-drop n 19 cell

pub returns-clause-name : goal.returns-clause-name
unfolding cells.cell_in
returns-clause-name c = split_name c.args.cell.now c.split_at.result.0.now c.min.result _ c.requires c.min.ensures c.split_at.ensures.front

pub returns-clause-rest : goal.returns-clause-rest
returns-clause-rest c = split_rest c.args.cell.now c.split_at.result.1.now c.min.result _ c.requires c.min.ensures c.split_at.ensures.back
