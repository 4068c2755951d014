use Rattle.std.proofs.Common.{refl}
use Rattle.std.proofs.lemmas.Result.{err_from_is_err_and}
use Rattle.disk_index.proofs.BlockLoop.{numbers_fail, numbers_done}
use Rattle.disk_index.proofs.QueryLoop.{noting_begins, noting_goes_on}
use Rattle.disk_index.proofs.query.note_numbers.Goals as goal

pub loop-init : goal.loop-init
loop-init c = noting_begins c.args.range c.args.count c.args.start.now c.args.found.now.items

pub returns-in_err-number : goal.returns-in_err-number
returns-in_err-number c =
    let p = err_from_is_err_and c.from_residual.result c.from_residual.ensures.1 in
    rw (p.1, p.2) (numbers_fail c.in_err-number.field-0.0 c.args.range c.args.count c.loop.counter c.loop.low c.args.start.now c.loop.rest.now c.loop-test.true c.in_err-number.ensures.value c.loop.invariant.so_far)

pub loop-preserved : goal.loop-preserved
loop-preserved c =
    noting_goes_on c.args.range c.args.count c.loop.counter c.loop.low c.args.start.now c.loop.rest.now c.args.found.now.items c.loop.found.items c.in_ok-number.number c.in_ok-number.after.now c.loop-test.true c.requires c.in_ok-number.ensures.value c.loop.invariant

pub returns : goal.returns
returns c =
    ((c.loop.invariant.so_far.before, c.loop.rest.now), numbers_done c.args.range c.args.count c.loop.counter c.loop.low c.args.start.now c.loop.rest.now c.loop-test.false c.loop.invariant.so_far, (refl, c.loop.invariant.notes))
