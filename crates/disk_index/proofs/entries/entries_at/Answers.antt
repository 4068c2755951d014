use Rattle.std.proofs.Common.{arith, refl}
use Rattle.std.proofs.lemmas.Result.{err_from_is_err_and}
use Rattle.disk_index.specs.Reads.{entry_of}
use Rattle.disk_index.proofs.EntryLoop.{goes_on, fails, is_done}
use Rattle.disk_index.proofs.entries.entries_at.Goals as goal

pub returns-in_err-path : goal.returns-in_err-path
returns-in_err-path c =
    let p = err_from_is_err_and c.from_residual.result c.from_residual.ensures.1 in
    rw (p.1, p.2) (fails c.in_err-path.field-0.0 c.args.file.now c.args.start.now c.args.count c.loop.counter c.loop.previous.now c.loop.rest.now c.loop.places.items c.loop-test.true c.in_err-path.ensures.value c.loop.invariant)

pub loop-preserved : goal.loop-preserved
loop-preserved c =
    rw c.in_ok-push.ensures.items
    (goes_on c.args.file.now c.args.start.now c.args.count c.loop.counter c.loop.previous.now c.loop.rest.now c.loop.places.items
    (entry_of c.in_ok-path.path.now c.in_ok-path.field-0-1) c.in_ok-path.after.now (λ i. omega (arith, c.type_inv.file i)) c.loop-test.true c.in_ok-path.ensures.value c.loop.invariant)

pub returns : goal.returns
returns c = (
  (c.loop.invariant.before, c.loop.rest.now),
  is_done c.args.file.now c.args.start.now c.args.count c.loop.counter c.loop.previous.now c.loop.rest.now c.loop.places.items c.loop-test.false c.loop.invariant,
  (refl, c.loop.invariant.shown),
)
