use Rattle.std.proofs.Common.{◌-◌}
use Rattle.disk_index.proofs.BlockLoop.{BlocksSoFar}
use Rattle.disk_index.proofs.blocks.blocks_at.Given as goal

abbrev pub invariant-loop : goal.invariant-loop
invariant-loop l = BlocksSoFar l.range l.count (l.count - l.counter) l.place l.word.items l.start l.rest l.starts.items
