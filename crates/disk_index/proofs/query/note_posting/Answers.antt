use Rattle.std.proofs.Common.{◌∙◌, ap}
use Rattle.std.proofs.lemmas.Result.{err_from_is_err_and}
use Rattle.disk_index.specs.Reads.{admits_word}
use Rattle.disk_index.proofs.BlockLoop.{posting_fails}
use Rattle.disk_index.proofs.QueryLoop.{given_noted}
use Rattle.disk_index.proofs.query.note_posting.Goals as goal

pub returns-in_err-count : goal.returns-in_err-count
returns-in_err-count g c =
    let p = err_from_is_err_and c.from_residual.result c.from_residual.ensures.1 in
    rw (p.1, p.2) (posting_fails c.in_err-count.field-0.0 c.args.range c.args.place c.args.word.now.items c.args.bytes.now c.in_err-count.ensures)

pub returns : goal.returns
returns g c =
    given_noted (g.P.Admit.admitted c.args.pattern.now) c.admits_word-chosen.result c.args.found.now.items c.note_if.new.found.items c.note_if.result c.args.range c.args.place c.args.word.now.items c.args.bytes.now c.head_at.new.word.items
    c.in_ok-count.count c.in_ok-count.rest.now (c.admits_word-chosen.ensures ∙ ap (admits_word (g.P.Admit.admitted c.args.pattern.now)) c.as_slice.ensures.value) c.in_ok-count.ensures c.note_if.ensures
