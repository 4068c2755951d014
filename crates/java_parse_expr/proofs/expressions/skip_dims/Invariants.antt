use Rattle.std.proofs.Common.{◌≡◌, ◌-◌}
use Rattle.java_expr_reading.specs.Reading.Expressions.{skip_dims, skips_dims}
use Rattle.java_parse_expr.proofs.expressions.skip_dims.Given as goal

abbrev pub invariant-loop-turn : goal.invariant-loop-turn
invariant-loop-turn l = skip_dims l.fn.cursor ≡ skips_dims (l._turn-end - l._turn) l.cursor
