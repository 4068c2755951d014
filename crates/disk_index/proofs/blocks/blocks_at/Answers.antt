use Rattle.std.proofs.Common.{refl}
use Rattle.std.proofs.lemmas.Result.{err_from_is_err_and}
use Rattle.disk_index.proofs.BlockLoop.{blocks_go_on, blocks_fail, blocks_done, blocks_of}
use Rattle.disk_index.proofs.blocks.blocks_at.Goals as goal

pub returns-in_err-rest : goal.returns-in_err-rest
returns-in_err-rest c =
    let p = err_from_is_err_and c.from_residual-in_err-rest.result c.from_residual-in_err-rest.ensures.1 in
    rw (p.1, p.2) (blocks_fail c.in_err-rest.field-0.0 c.args.range c.args.count c.loop.counter c.loop.place c.loop.word.items c.args.start.now c.loop.rest.now c.loop.starts.items c.loop-test.true c.in_err-rest.ensures c.loop.invariant)

pub loop-preserved : goal.loop-preserved
loop-preserved c =
    let read = c.in_ok-rest.ensures in
    blocks_go_on c.args.range c.args.count c.loop.counter c.loop.place c.loop.word.items c.args.start.now c.loop.rest.now c.loop.starts.items read.0 c.skip_posting.new.word.items c.in_ok-rest.rest.now
    c.push_start.new.starts.items c.next_place-place.result c.loop-test.true read.1 read.2.0 read.2.1 c.in_ok-push_start.ensures c.next_place-place.ensures.value c.next_place-place.ensures.within c.loop.invariant

pub returns : goal.returns
returns c = (
  blocks_of c.loop.invariant.before c.loop.starts.items c.loop.rest.now,
  blocks_done c.args.range c.args.count c.loop.counter c.loop.place c.loop.word.items c.args.start.now c.loop.rest.now c.loop.starts.items c.loop-test.false c.loop.invariant,
  (refl, refl),
)
