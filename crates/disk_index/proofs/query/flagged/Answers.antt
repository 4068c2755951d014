use Rattle.std.proofs.Common.{false, get_or}
use Rattle.std.specs.Prelude.{◌&&◌}
use Rattle.disk_index.proofs.QueryRows.{chosen_next}
use Rattle.disk_index.proofs.query.flagged.Goals as goal

pub loop-at-preserved : goal.loop-at-preserved
loop-at-preserved c =
    chosen_next (λ n. get_or c.args.live.now n false && get_or c.args.found.now n false) c.loop-at.at c.are_flagged-chosen.result c.loop-at.numbers.items c.push_if.new.numbers.items c.are_flagged-chosen.ensures c.loop-at.invariant c.in_ok-push_if.ensures
