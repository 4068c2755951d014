use Rattle.std.proofs.lemmas.Result.{err_from_is_err_and}
use Rattle.disk_index.proofs.BlockLoop.{blocks_of}
use Rattle.disk_index.proofs.QueryLoop.{words_begin, words_go_on, words_fail, words_done}
use Rattle.disk_index.proofs.query.note_blocks.Goals as goal

pub loop-init : goal.loop-init
loop-init g c = words_begin (g.P.Admit.admitted c.args.pattern.now) c.args.range c.args.count c.new-word.result.items c.args.start.now c.args.found.now.items c.new-word.ensures.items

pub returns-in_err-rest : goal.returns-in_err-rest
returns-in_err-rest g c =
    let p = err_from_is_err_and c.from_residual.result c.from_residual.ensures.1 in
    rw (p.1, p.2) (words_fail c.in_err-rest.field-0.0 (g.P.Admit.admitted c.args.pattern.now) c.args.range c.args.count c.loop.counter c.loop.place c.loop.word.items c.args.start.now c.loop.rest.now c.args.found.now.items c.loop.found.items c.loop-test.true c.in_err-rest.ensures c.loop.invariant)

pub loop-preserved : goal.loop-preserved
loop-preserved g c =
    let read = c.in_ok-rest.ensures in
    words_go_on (g.P.Admit.admitted c.args.pattern.now) c.args.range c.args.count c.loop.counter c.loop.place c.loop.word.items c.args.start.now c.loop.rest.now c.args.found.now.items c.loop.found.items
    read.0 c.note_posting.new.word.items c.in_ok-rest.rest.now c.note_posting.new.found.items c.next_place-place.result c.loop-test.true read.1 read.2.0 read.2.1 read.2.2
    c.next_place-place.ensures.value c.next_place-place.ensures.within c.loop.invariant

pub returns : goal.returns
returns g c = (
  blocks_of c.loop.invariant.before c.loop.invariant.starts c.loop.rest.now,
  words_done (g.P.Admit.admitted c.args.pattern.now) c.args.range c.args.count c.loop.counter c.loop.place c.loop.word.items c.args.start.now c.loop.rest.now c.args.found.now.items c.loop.found.items c.loop-test.false c.loop.invariant,
  c.loop.invariant.notes,
)
