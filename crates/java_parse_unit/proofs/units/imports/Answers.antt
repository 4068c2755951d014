use Rattle.std.proofs.Common.{rules, arith}
use Rattle.std.proofs.lemmas.Grind.{common_steps}
use Rattle.java_unit_reading.specs.Reading.Steps.{many}
use Rattle.java_unit_reading.specs.Reading.Units as spec
use Rattle.java_expr_reading.proofs.Turns.{one_more, no_more}
use Rattle.java_parse_unit.proofs.units.imports.Goals as goal

pub loop-turn-init : goal.loop-turn-init
loop-turn-init c = first_of (search rules, grind (arith, common_steps))

pub returns-in_err-item : goal.returns-in_err-item
unfolding many
returns-in_err-item c =
    let e = one_more (λ n. many spec.any_import n c.loop-turn.found c.loop-turn.reader)
    _ c.loop-turn._turn c.loop-turn-test.true c.loop-turn.invariant in
    first_of (search rules, grind (arith, common_steps))

pub returns-in-None : goal.returns-in-None
unfolding many
returns-in-None c =
    let e = one_more (λ n. many spec.any_import n c.loop-turn.found c.loop-turn.reader)
    _ c.loop-turn._turn c.loop-turn-test.true c.loop-turn.invariant in
    first_of (search rules, grind (arith, common_steps))

pub loop-turn-preserved : goal.loop-turn-preserved
unfolding many
loop-turn-preserved c =
    let e = one_more (λ n. many spec.any_import n c.loop-turn.found c.loop-turn.reader)
    _ c.loop-turn._turn c.loop-turn-test.true c.loop-turn.invariant in
    first_of (search rules, grind (arith, common_steps))

pub returns : goal.returns
unfolding many
returns c =
    let e = no_more (λ n. many spec.any_import n c.loop-turn.found c.loop-turn.reader)
    _ c.loop-turn._turn c.loop-turn-test.false c.loop-turn.invariant in
    first_of (search rules, grind (arith, common_steps))
