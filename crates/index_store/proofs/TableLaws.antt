-- The table after a save.
use Rattle.std.proofs.Common.{◌≡◌, inl, inr, ℕ, ◌<◌, List, length, get_or, set, Option, None, Some, sym, ◌∙◌, subst}
use Rattle.std.proofs.lemmas.List.{length-set, get_or-set_same, get_or-set_other}
use Rattle.std.proofs.lemmas.Bool.{cases_eq}
use Rattle.java_model.specs.StateFile.Cells.{Cell as Says}
use Rattle.index_states.specs.declared.cell.Cell.{Cell}
use Rattle.index_states.specs.Cells.{says_of}
use Rattle.index_store.specs.Kept.{acked_as, Acks, acknowledging}
use Rattle.index_store.specs.Table.{IsTable, Matches}
use Rattle.index_store.proofs.Staged.{acked_here, acked_elsewhere}

pub table_after : (acks : Acks) (table : List (Option Cell)) (pair side : ℕ) (says : Says) (image : List ℕ) (cell : Cell) → IsTable acks table → pair < length table → side ≡ cell.side → side < 2 → says ≡ says_of cell
    → IsTable (acknowledging acks pair (acked_as side says image)) (set table pair (Some cell))
table_after acks table pair side says image cell is low same two told = record {
  long = length-set table pair (Some cell) ∙ is.long;
  entries = λ q below. elim (cases_eq q pair) [
    | inl here ↦
        subst (λ (r : ℕ). Matches (acknowledging acks pair (acked_as side says image) r) (get_or (set table pair (Some cell)) r None)) (sym here)
        (subst (λ a. Matches a (get_or (set table pair (Some cell)) pair None)) (sym (acked_here acks pair (acked_as side says image)))
        (subst (λ c. Matches (Some (acked_as side says image)) c) (sym (get_or-set_same table pair (Some cell) None low)) (same, told, subst (λ (s : ℕ). s < 2) same two)))
    | inr there ↦
        subst (λ a. Matches a (get_or (set table pair (Some cell)) q None)) (sym (acked_elsewhere acks pair q (acked_as side says image) there))
        (subst (λ c. Matches (acks q) c) (sym (get_or-set_other table pair q (Some cell) None there)) (is.entries q below))
  ];
}
