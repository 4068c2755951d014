use Rattle.std.proofs.Common.{◌≡◌, ◌-◌}
use Rattle.java_parse_stmt.specs.Knot.{inside}
use Rattle.java_unit_reading.specs.Reading.Steps.{many, list_from}
use Rattle.java_unit_reading.specs.Reading.Expressions.{exprs}
use Rattle.java_unit_reading.specs.Reading.Nested as spec
use Rattle.java_parse_stmt.proofs.grammar.Grammar.comma_statement_exprs.Given as goal

abbrev pub invariant-loop-turn : goal.invariant-loop-turn
invariant-loop-turn g l =
    list_from (spec.comma_statement_expr exprs (inside l.self.depth) l.self.depth l.self.within) l.fn.found l.fn.reader
    ≡ many (spec.comma_statement_expr exprs (inside l.self.depth) l.self.depth l.self.within) (l._turn-end - l._turn) l.found l.reader
