use Rattle.java_model.specs.StateFile.Cells.{newest_in}
use Rattle.index_states.specs.Loaded.{EachBelow, IsNewest}
use Rattle.index_states.proofs.reading.newest_cells.Given as goal

abbrev pub invariant-loop-pair : goal.invariant-loop-pair
invariant-loop-pair l = EachBelow (λ pair cell. IsNewest pair cell (newest_in l.fn.state pair)) l.pair l.cells.items
