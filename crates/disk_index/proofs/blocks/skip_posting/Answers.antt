use Rattle.std.proofs.lemmas.Result.{err_from_is_err_and}
use Rattle.disk_index.proofs.BlockLoop.{posting_fails, given_numbers}
use Rattle.disk_index.proofs.blocks.skip_posting.Goals as goal

pub returns-in_err-count : goal.returns-in_err-count
returns-in_err-count c =
    let p = err_from_is_err_and c.from_residual.result c.from_residual.ensures.1 in
    rw (p.1, p.2) (posting_fails c.in_err-count.field-0.0 c.args.range c.args.place c.args.word.now.items c.args.bytes.now c.in_err-count.ensures)

pub returns : goal.returns
returns c =
    given_numbers c.skip_numbers.result c.args.range c.args.place c.args.word.now.items c.args.bytes.now c.head_at.new.word.items c.in_ok-count.count c.in_ok-count.rest.now c.in_ok-count.ensures c.skip_numbers.ensures.value
