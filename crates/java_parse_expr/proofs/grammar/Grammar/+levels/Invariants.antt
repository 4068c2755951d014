use Rattle.std.proofs.Common.{◌≡◌, suc, ◌+◌, ◌*◌, ◌-◌}
use Rattle.java_expr_reading.specs.Input.{Done, many, many_from}
use Rattle.java_parse_expr.specs.Chains.{chains}
use Rattle.java_expr_reading.specs.Reading.Expressions as spec
use Rattle.java_expr_reading.specs.Reading.Expressions.{read_nest}
use Rattle.java_parse_expr.proofs.grammar.Grammar.+levels.Given as goal

abbrev pub decreases-binary : goal.decreases-binary
decreases-binary g l = 4 * l.level + 1

abbrev pub decreases-chains : goal.decreases-chains
decreases-chains g l = 4 * l.level

abbrev pub decreases-operations : goal.decreases-operations
decreases-operations g l = 4 * l.below + 3

abbrev pub decreases-operation : goal.decreases-operation
decreases-operation g l = 4 * l.below + 2

abbrev pub invariant-chains-loop-below : goal.invariant-chains-loop-below
invariant-chains-loop-below g l = chains l.self.depth (read_nest l.self.depth) l.below l.fn.first l.fn.cursor ≡ Done l.value l.cursor

abbrev pub invariant-operations-loop-turn : goal.invariant-operations-loop-turn
invariant-operations-loop-turn g l = many (spec.operation l.self.depth (read_nest l.self.depth) (suc l.below) (spec.binary l.self.depth (read_nest l.self.depth) l.below)) l.fn.found l.fn.cursor ≡ many_from (spec.operation l.self.depth (read_nest l.self.depth) (suc l.below) (spec.binary l.self.depth (read_nest l.self.depth) l.below)) (l._turn-end - l._turn) l.found l.cursor
