use Rattle.std.proofs.Common.{drop}
use Rattle.disk_index.proofs.HitLoop.{Chosen}
use Rattle.disk_index.proofs.named.live_hits.Given as goal

abbrev pub invariant-loop-hit : goal.invariant-loop-hit
invariant-loop-hit l = Chosen l.live l.hit-items (drop l.hit-index l.hit-items) l.numbers.items l.next
