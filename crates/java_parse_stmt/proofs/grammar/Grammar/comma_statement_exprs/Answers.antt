use Rattle.std.proofs.Common.{rules, arith}
use Rattle.std.proofs.lemmas.Grind.{common_steps}
use Rattle.java_expr_reading.proofs.Turns.{one_more, no_more}
use Rattle.java_parse_stmt.specs.Knot.{inside}
use Rattle.java_unit_reading.specs.Reading.Steps.{many}
use Rattle.java_unit_reading.specs.Reading.Expressions.{exprs}
use Rattle.java_unit_reading.specs.Reading.Nested as spec
use Rattle.java_parse_stmt.proofs.grammar.Grammar.comma_statement_exprs.Goals as goal

pub loop-turn-init : goal.loop-turn-init
loop-turn-init g c = first_of (search rules, grind (arith, common_steps))

pub returns-in_err-item : goal.returns-in_err-item
unfolding many
returns-in_err-item g c =
    let e = one_more (λ n. many (spec.comma_statement_expr exprs (inside c.args.self.now.depth) c.args.self.now.depth c.args.self.now.within)
    n c.loop-turn.found c.loop-turn.reader) _ c.loop-turn._turn c.loop-turn-test.true c.loop-turn.invariant in
    first_of (search rules, grind (arith, common_steps))

pub returns-in-None : goal.returns-in-None
unfolding many
returns-in-None g c =
    let e = one_more (λ n. many (spec.comma_statement_expr exprs (inside c.args.self.now.depth) c.args.self.now.depth c.args.self.now.within)
    n c.loop-turn.found c.loop-turn.reader) _ c.loop-turn._turn c.loop-turn-test.true c.loop-turn.invariant in
    first_of (search rules, grind (arith, common_steps))

pub loop-turn-preserved : goal.loop-turn-preserved
unfolding many
loop-turn-preserved g c =
    let e = one_more (λ n. many (spec.comma_statement_expr exprs (inside c.args.self.now.depth) c.args.self.now.depth c.args.self.now.within)
    n c.loop-turn.found c.loop-turn.reader) _ c.loop-turn._turn c.loop-turn-test.true c.loop-turn.invariant in
    first_of (search rules, grind (arith, common_steps))

pub returns : goal.returns
unfolding many
returns g c =
    let e = no_more (λ n. many (spec.comma_statement_expr exprs (inside c.args.self.now.depth) c.args.self.now.depth c.args.self.now.within)
    n c.loop-turn.found c.loop-turn.reader) _ c.loop-turn._turn c.loop-turn-test.false c.loop-turn.invariant in
    first_of (search rules, grind (arith, common_steps))
