use Rattle.std.proofs.Common.{◌-◌}
use Rattle.disk_index.proofs.BlockLoop.{NumbersSoFar}
use Rattle.disk_index.proofs.blocks.skip_numbers.Given as goal

abbrev pub invariant-loop : goal.invariant-loop
invariant-loop l = NumbersSoFar l.range l.count (l.count - l.counter) l.low l.start l.rest
