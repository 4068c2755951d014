use Rattle.std.proofs.Common.{refl, ◌∷◌}
use Rattle.std.specs.Prelude.{length}
use Rattle.std.proofs.lemmas.Result.{err_from_is_err_and}
use Rattle.disk_index.proofs.BlockLoop.{numbers_fail, numbers_done}
use Rattle.disk_index.proofs.RowLoop.{seeing_begins, seeing_goes_on}
use Rattle.disk_index.proofs.rows.push_numbers.Goals as goal

pub loop-init : goal.loop-init
loop-init c = seeing_begins c.args.live.now c.args.count (c.args.byte ∷ c.args.key.now) c.args.start.now c.args.rows.now

pub returns-in_err-number : goal.returns-in_err-number
returns-in_err-number c =
    let p = err_from_is_err_and c.from_residual.result c.from_residual.ensures.1 in
    rw (p.1, p.2) (numbers_fail c.in_err-number.field-0.0 (length c.args.live.now) c.args.count c.loop.counter c.loop.low c.args.start.now c.loop.rest.now c.loop-test.true c.in_err-number.ensures.value c.loop.invariant.so_far)

pub loop-preserved : goal.loop-preserved
loop-preserved c =
    seeing_goes_on c.args.live.now c.args.count c.loop.counter c.loop.low (c.args.byte ∷ c.args.key.now) c.args.start.now c.loop.rest.now c.args.rows.now c.loop.rows c.push_row.new.rows c.in_ok-number.number c.in_ok-number.after.now
    c.loop-test.true c.in_ok-number.ensures.value c.in_ok-push_row.ensures c.loop.invariant

pub returns : goal.returns
returns c =
    ((c.loop.invariant.so_far.before, c.loop.rest.now), numbers_done (length c.args.live.now) c.args.count c.loop.counter c.loop.low c.args.start.now c.loop.rest.now c.loop-test.false c.loop.invariant.so_far, (refl, c.loop.invariant.rows_are))
