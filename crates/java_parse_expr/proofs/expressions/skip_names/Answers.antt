use Rattle.std.proofs.Common.{rules, arith}
use Rattle.std.proofs.lemmas.Grind.{common_steps}
use Rattle.java_expr_reading.specs.Reading.Expressions.{skip_names, skips_names}
use Rattle.java_expr_reading.proofs.Turns.{one_more, no_more}
use Rattle.java_parse_expr.proofs.expressions.skip_names.Goals as goal

pub loop-turn-init : goal.loop-turn-init
unfolding skip_names
loop-turn-init c = first_of (search rules, grind (arith, common_steps))

pub returns-then-not-sees_member : goal.returns-then-not-sees_member
unfolding skips_names
returns-then-not-sees_member c =
    let e = one_more (λ n. skips_names n c.loop-turn.cursor) _ c.loop-turn._turn c.loop-turn-test.true c.loop-turn.invariant in
    first_of (search rules, grind (arith, common_steps))

pub loop-turn-preserved : goal.loop-turn-preserved
unfolding skips_names
loop-turn-preserved c =
    let e = one_more (λ n. skips_names n c.loop-turn.cursor) _ c.loop-turn._turn c.loop-turn-test.true c.loop-turn.invariant in
    first_of (search rules, grind (arith, common_steps))

pub returns : goal.returns
unfolding skips_names
returns c =
    let e = no_more (λ n. skips_names n c.loop-turn.cursor) _ c.loop-turn._turn c.loop-turn-test.false c.loop-turn.invariant in
    first_of (search rules, grind (arith, common_steps))
