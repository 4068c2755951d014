use Rattle.index_bench.proofs.Whole.{whole_content}
use Rattle.index_bench.proofs.content.content_of.Goals as goal

pub returns : goal.returns
returns c =
    whole_content c.args.bytes.items c.in_ok-part.part c.in_ok-entries.entries c.in_ok-rows.rows
    c.in_ok-part.ensures c.in_ok-entries.ensures c.in_ok-rows.ensures
