use Rattle.std.proofs.Common.{◌≡◌, ◌-◌}
use Rattle.java_expr_reading.specs.Reading.Names.{dims, dims_from}
use Rattle.java_expr_reading.proofs.names.dims.Given as goal

abbrev pub invariant-loop-turn : goal.invariant-loop-turn
invariant-loop-turn l = dims l.fn.cursor ≡ dims_from (l._turn-end - l._turn) l.found l.cursor
