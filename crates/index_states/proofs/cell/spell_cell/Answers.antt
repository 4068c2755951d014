use Rattle.std.proofs.Common.{◌≡◌, ◌∷◌, ◌++◌, ◌+◌, ◌-◌, List, ℕ, length, drop, replicate, ◌∙◌, ap, arith}
use Rattle.std.specs.Bool.{if◌then◌else◌}
use Rattle.std.proofs.lemmas.List.{drop-replicate}
use Rattle.byteorder.specs.Endian.{big_bytes}
use Rattle.java_model.specs.StateFile.Cells.{counting}
use Rattle.index_states.proofs.Counting.{counts_spelled}
use Rattle.index_states.proofs.cell.spell_cell.Goals as goal

zeros_left : (n : ℕ) → drop {A = ℕ} (18 + n) (replicate 255 0) ≡ replicate (237 - n) 0
zeros_left n = drop-replicate (18 + n) 255 0 ∙ ap (λ (k : ℕ). replicate k 0) (omega arith)

pub returns-clause-spelled : goal.returns-clause-spelled
returns-clause-spelled c =
    c.put_kind.ensures
    ∙ ap (λ (l : List ℕ). (if c.args.rebuild then 2 else 1) ∷ (big_bytes 8 c.args.generation ++ (big_bytes 8 c.args.size ++ (length c.args.name.now ∷ (c.args.name.now ++ l))))) (zeros_left (length c.args.name.now))

pub returns-clause-counts : goal.returns-clause-counts
returns-clause-counts c sound =
    ap (λ (l : List ℕ). counting (1 ∷ l)) (returns-clause-spelled c) ∙ counts_spelled c.args.rebuild c.args.generation c.args.size c.args.name.now (omega arith) (omega arith) sound
