use Rattle.std.proofs.Common.{refl, get_or}
use Rattle.std.proofs.lemmas.Result.{err_from_is_err_and}
use Rattle.disk_index.proofs.BlockLoop.{offset_goes_on, offset_fails, offsets_done}
use Rattle.disk_index.proofs.blocks.offsets_at.Goals as goal

pub returns-in_err-after-clause-value : goal.returns-in_err-after-clause-value
returns-in_err-after-clause-value c =
    let p = err_from_is_err_and c.from_residual.result c.from_residual.ensures.1 in
    rw (p.1, p.2) (offset_fails c.in_err-after.field-0.0 c.args.total c.args.starts.now c.loop-left.left-index (get_or c.args.starts.now c.loop-left.left-index 0) c.args.table.now c.loop-left.rest.now c.loop-left-test.true refl c.in_err-after.ensures.value c.loop-left.invariant)

pub loop-left-preserved : goal.loop-left-preserved
loop-left-preserved c =
    offset_goes_on c.args.total c.args.starts.now c.loop-left.left-index (get_or c.args.starts.now c.loop-left.left-index 0) c.args.table.now c.loop-left.rest.now c.in_ok-after.field-0-0 c.in_ok-after.after.now c.loop-left-test.true refl c.in_ok-after.ensures.value c.loop-left.invariant

pub returns-clause-value : goal.returns-clause-value
returns-clause-value c = (c.loop-left.rest.now, offsets_done c.args.total c.args.starts.now c.loop-left.left-index c.args.table.now c.loop-left.rest.now c.loop-left-test.false c.loop-left.invariant, tt)
