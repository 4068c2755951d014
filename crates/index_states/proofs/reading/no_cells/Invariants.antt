use Rattle.std.proofs.Common.{◌≡◌, None}
use Rattle.index_states.specs.Loaded.{EachBelow}
use Rattle.index_states.proofs.reading.no_cells.Given as goal

abbrev pub invariant-loop : goal.invariant-loop
invariant-loop l = EachBelow (λ pair cell. cell ≡ None) l.counter l.cells.items
