use Rattle.std.proofs.Common.{◌∙◌, sym, ap}
use Rattle.std.proofs.lemmas.Result.{err_from_is_err_and}
use Rattle.disk_index.specs.Reads.{admits_word}
use Rattle.disk_index.specs.Named.{is_past}
use Rattle.disk_index.proofs.NamedLoop.{walk_begins, walk_goes_on, walk_fails, walk_cut, walk_stops, walk_ends}
use Rattle.disk_index.proofs.named.add_from.Goals as goal

pub loop-init : goal.loop-init
loop-init g c = walk_begins (g.P.Admit.admitted c.args.pattern.now) c.args.range c.args.count c.new-word.result.items c.args.start.now c.args.hits.now.items c.new-word.ensures.items

pub returns-in_err-many : goal.returns-in_err-many
returns-in_err-many g c =
    let p = err_from_is_err_and c.from_residual.result c.from_residual.ensures.1 in
    rw (p.1, p.2) (walk_fails c.in_err-many.field-0.0 (g.P.Admit.admitted c.args.pattern.now) c.args.range c.args.count c.loop.counter c.loop.place c.loop.word.items c.args.start.now c.loop.rest.now c.args.hits.now.items c.loop.hits.items c.loop-test.true c.in_err-many.ensures c.loop.invariant)

pub returns-then-is_past : goal.returns-then-is_past
returns-then-is_past g c =
    walk_stops (tt {0}) (g.P.Admit.admitted c.args.pattern.now) c.args.key.now c.args.range c.args.count c.loop.counter c.loop.place c.loop.word.items c.args.start.now c.loop.rest.now c.args.hits.now.items c.loop.hits.items
    c.head_at.new.word.items c.in_ok-many.many c.in_ok-many.after.now c.loop-test.true c.in_ok-many.ensures (ap (is_past c.args.key.now) (sym c.as_slice.ensures.value) ∙ sym c.is_past.ensures ∙ c.if-is_past.true) c.loop.invariant

pub returns-in_err-rest : goal.returns-in_err-rest
returns-in_err-rest g c =
    let p = err_from_is_err_and c.from_residual-in_err-rest.result c.from_residual-in_err-rest.ensures.1 in
    rw (p.1, p.2) (walk_cut c.in_err-rest.field-0.0 (g.P.Admit.admitted c.args.pattern.now) c.args.range c.args.count c.loop.counter c.loop.place c.loop.word.items c.args.start.now c.loop.rest.now c.args.hits.now.items c.loop.hits.items
    c.head_at.new.word.items c.in_ok-many.many c.in_ok-many.after.now c.loop-test.true c.in_ok-many.ensures c.in_err-rest.ensures c.loop.invariant)

pub loop-preserved : goal.loop-preserved
loop-preserved g c =
    let read = c.in_ok-rest.ensures in
    walk_goes_on (g.P.Admit.admitted c.args.pattern.now) c.args.range c.args.count c.loop.counter c.loop.place c.loop.word.items c.args.start.now c.loop.rest.now c.args.hits.now.items c.loop.hits.items c.admits_word-chosen.result
    c.head_at.new.word.items c.in_ok-many.many c.in_ok-many.after.now read.0 c.in_ok-rest.rest.now c.add_if.new.hits.items c.next_place-place.result c.loop-test.true c.in_ok-many.ensures read.1
    (c.admits_word-chosen.ensures ∙ ap (admits_word (g.P.Admit.admitted c.args.pattern.now)) c.as_slice-in-loop.ensures.value) read.2.0 read.2.1 c.next_place-place.ensures.value c.next_place-place.ensures.within c.loop.invariant

pub returns : goal.returns
returns g c =
    walk_ends (tt {0}) (g.P.Admit.admitted c.args.pattern.now) c.args.key.now c.args.range c.args.count c.loop.counter c.loop.place c.loop.word.items c.args.start.now c.loop.rest.now c.args.hits.now.items c.loop.hits.items c.loop-test.false c.loop.invariant
