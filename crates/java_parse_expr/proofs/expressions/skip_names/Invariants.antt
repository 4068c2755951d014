use Rattle.std.proofs.Common.{◌≡◌, ◌-◌}
use Rattle.java_expr_reading.specs.Reading.Expressions.{skip_names, skips_names}
use Rattle.java_parse_expr.proofs.expressions.skip_names.Given as goal

abbrev pub invariant-loop-turn : goal.invariant-loop-turn
invariant-loop-turn l = skip_names l.fn.cursor ≡ skips_names (l._turn-end - l._turn) l.cursor
