use Rattle.std.proofs.Common.{rules, arith}
use Rattle.std.proofs.lemmas.Grind.{common_steps}
use Rattle.java_unit_reading.specs.Reading.Words.{dims, dims_from}
use Rattle.java_expr_reading.proofs.Turns.{one_more, no_more}
use Rattle.java_unit_reading.proofs.words.dims.Goals as goal

pub loop-turn-init : goal.loop-turn-init
unfolding dims
loop-turn-init c = first_of (search rules, grind (arith, common_steps))

pub returns-then-not-sees : goal.returns-then-not-sees
unfolding dims_from
returns-then-not-sees c =
    let e = one_more (λ n. dims_from n c.loop-turn.found c.loop-turn.reader)
    _ c.loop-turn._turn c.loop-turn-test.true c.loop-turn.invariant in
    first_of (search rules, grind (arith, common_steps))

pub returns-in_err-expect : goal.returns-in_err-expect
unfolding dims_from
returns-in_err-expect c =
    let e = one_more (λ n. dims_from n c.loop-turn.found c.loop-turn.reader)
    _ c.loop-turn._turn c.loop-turn-test.true c.loop-turn.invariant in
    first_of (search rules, grind (arith, common_steps))

pub returns-in_err-expect-2 : goal.returns-in_err-expect-2
unfolding dims_from
returns-in_err-expect-2 c =
    let e = one_more (λ n. dims_from n c.loop-turn.found c.loop-turn.reader)
    _ c.loop-turn._turn c.loop-turn-test.true c.loop-turn.invariant in
    first_of (search rules, grind (arith, common_steps))

pub loop-turn-preserved : goal.loop-turn-preserved
unfolding dims_from
loop-turn-preserved c =
    let e = one_more (λ n. dims_from n c.loop-turn.found c.loop-turn.reader)
    _ c.loop-turn._turn c.loop-turn-test.true c.loop-turn.invariant in
    first_of (search rules, grind (arith, common_steps))

pub returns : goal.returns
unfolding dims_from
returns c =
    let e = no_more (λ n. dims_from n c.loop-turn.found c.loop-turn.reader)
    _ c.loop-turn._turn c.loop-turn-test.false c.loop-turn.invariant in
    first_of (search rules, grind (arith, common_steps))
