use Rattle.std.proofs.Common.{◌≡◌, ◌-◌}
use Rattle.java_expr_reading.specs.Input.{many, many_from}
use Rattle.java_expr_reading.specs.Reading.Names as spec
use Rattle.java_expr_reading.proofs.names.dotted_idents.Given as goal

abbrev pub invariant-loop-turn : goal.invariant-loop-turn
invariant-loop-turn l = many spec.dotted_ident l.fn.found l.fn.cursor ≡ many_from spec.dotted_ident (l._turn-end - l._turn) l.found l.cursor
