use Rattle.std.proofs.lemmas.Result.{err_from_is_err_and}
use Rattle.disk_index.proofs.BlockLoop.{blocks_of}
use Rattle.disk_index.proofs.RowLoop.{rows_begin, rows_go_on, rows_fail, rows_done}
use Rattle.disk_index.proofs.rows.push_blocks.Goals as goal

pub loop-init : goal.loop-init
loop-init c = rows_begin c.args.live.now c.args.count c.new-word.result.items c.args.start.now c.args.rows.now c.new-word.ensures.items

pub returns-in_err-rest : goal.returns-in_err-rest
returns-in_err-rest c =
    let p = err_from_is_err_and c.from_residual.result c.from_residual.ensures.1 in
    rw (p.1, p.2) (rows_fail c.in_err-rest.field-0.0 c.args.live.now c.args.count c.loop.counter c.loop.place c.loop.word.items c.args.start.now c.loop.rest.now c.args.rows.now c.loop.rows c.loop-test.true c.in_err-rest.ensures c.loop.invariant)

pub loop-preserved : goal.loop-preserved
loop-preserved c =
    let read = c.in_ok-rest.ensures in
    rows_go_on c.args.live.now c.args.count c.loop.counter c.loop.place c.loop.word.items c.args.start.now c.loop.rest.now c.args.rows.now c.loop.rows c.push_posting.new.rows
    read.0 c.push_posting.new.word.items c.in_ok-rest.rest.now c.next_place-place.result c.loop-test.true read.1 read.2.0 read.2.1 read.2.2
    c.next_place-place.ensures.value c.next_place-place.ensures.within c.loop.invariant

pub returns : goal.returns
returns c = (
  blocks_of c.loop.invariant.before c.loop.invariant.starts c.loop.rest.now,
  rows_done c.args.live.now c.args.count c.loop.counter c.loop.place c.loop.word.items c.args.start.now c.loop.rest.now c.args.rows.now c.loop.rows c.loop-test.false c.loop.invariant,
  c.loop.invariant.rows_are,
)
