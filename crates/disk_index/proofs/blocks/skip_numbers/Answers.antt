use Rattle.std.proofs.Common.{refl}
use Rattle.std.proofs.lemmas.Result.{err_from_is_err_and}
use Rattle.disk_index.proofs.BlockLoop.{numbers_go_on, numbers_fail, numbers_done}
use Rattle.disk_index.proofs.blocks.skip_numbers.Goals as goal

pub returns-in_err-number-clause-value : goal.returns-in_err-number-clause-value
returns-in_err-number-clause-value c =
    let p = err_from_is_err_and c.from_residual.result c.from_residual.ensures.1 in
    rw (p.1, p.2) (numbers_fail c.in_err-number.field-0.0 c.args.range c.args.count c.loop.counter c.loop.low c.args.start.now c.loop.rest.now c.loop-test.true c.in_err-number.ensures.value c.loop.invariant)

pub loop-preserved : goal.loop-preserved
loop-preserved c =
    numbers_go_on c.args.range c.args.count c.loop.counter c.loop.low c.args.start.now c.loop.rest.now c.in_ok-number.number c.in_ok-number.after.now c.loop-test.true c.in_ok-number.ensures.value c.loop.invariant

pub returns-clause-value : goal.returns-clause-value
returns-clause-value c =
    ((c.loop.invariant.before, c.loop.rest.now), numbers_done c.args.range c.args.count c.loop.counter c.loop.low c.args.start.now c.loop.rest.now c.loop-test.false c.loop.invariant, refl)
