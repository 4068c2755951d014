use Rattle.std.proofs.Common.{◌∙◌}
use Rattle.index_bench.proofs.Whole.{entries_go_on}
use Rattle.index_bench.proofs.content.entries_of.Goals as goal

pub loop-at-preserved : goal.loop-at-preserved
loop-at-preserved c =
    c.in_ok-push.ensures.ok ∙ entries_go_on c.args.part.now.entries c.loop-at.entries c.loop-at.at c.in_ok-from_str.field-0 c.path.result.now c.stamp.result
    c.loop-at.invariant c.in_ok-from_str.ensures c.path.ensures c.stamp.ensures
