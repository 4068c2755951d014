use Rattle.std.proofs.Common.{rules, arith}
use Rattle.std.proofs.lemmas.Grind.{common_steps}
use Rattle.java_expr_reading.specs.Input.{many, many_from}
use Rattle.java_expr_reading.specs.Reading.Expressions as spec
use Rattle.java_expr_reading.specs.Reading.Expressions.{read_nest}
use Rattle.java_expr_reading.proofs.Turns.{one_more, no_more}
use Rattle.java_parse_expr.proofs.grammar.Grammar.postfix_ops.Goals as goal

pub loop-turn-init : goal.loop-turn-init
unfolding many
loop-turn-init g c = first_of (search rules, grind (arith, common_steps))

pub returns-in_err-item : goal.returns-in_err-item
unfolding many_from
returns-in_err-item g c =
    let e = one_more (λ n. many_from (spec.postfix_op c.args.self.now.depth (read_nest c.args.self.now.depth)) n c.loop-turn.found c.loop-turn.cursor) _ c.loop-turn._turn c.loop-turn-test.true c.loop-turn.invariant in
    first_of (search rules, grind (arith, common_steps))

pub returns-in-None : goal.returns-in-None
unfolding many_from
returns-in-None g c =
    let e = one_more (λ n. many_from (spec.postfix_op c.args.self.now.depth (read_nest c.args.self.now.depth)) n c.loop-turn.found c.loop-turn.cursor) _ c.loop-turn._turn c.loop-turn-test.true c.loop-turn.invariant in
    first_of (search rules, grind (arith, common_steps))

pub loop-turn-preserved : goal.loop-turn-preserved
unfolding many_from
loop-turn-preserved g c =
    let e = one_more (λ n. many_from (spec.postfix_op c.args.self.now.depth (read_nest c.args.self.now.depth)) n c.loop-turn.found c.loop-turn.cursor) _ c.loop-turn._turn c.loop-turn-test.true c.loop-turn.invariant in
    first_of (search rules, grind (arith, common_steps))

pub returns : goal.returns
unfolding many_from
returns g c =
    let e = no_more (λ n. many_from (spec.postfix_op c.args.self.now.depth (read_nest c.args.self.now.depth)) n c.loop-turn.found c.loop-turn.cursor) _ c.loop-turn._turn c.loop-turn-test.false c.loop-turn.invariant in
    first_of (search rules, grind (arith, common_steps))
