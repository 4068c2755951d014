use Rattle.std.proofs.Common.{◌≡◌, ◌-◌}
use Rattle.java_expr_reading.specs.Input.{many, many_from}
use Rattle.java_expr_reading.specs.Reading.Primaries as spec
use Rattle.java_expr_reading.specs.Reading.Expressions.{read_nest}
use Rattle.java_parse_expr.proofs.grammar.Grammar.selectors.Given as goal

abbrev pub invariant-loop-turn : goal.invariant-loop-turn
invariant-loop-turn g l = many (spec.selector l.self.depth (read_nest l.self.depth)) l.fn.found l.fn.cursor ≡ many_from (spec.selector l.self.depth (read_nest l.self.depth)) (l._turn-end - l._turn) l.found l.cursor
