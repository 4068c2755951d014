use Rattle.std.proofs.Common.{◌-◌}
use Rattle.disk_index.proofs.RowLoop.{RowsSoFar}
use Rattle.disk_index.proofs.rows.push_blocks.Given as goal

abbrev pub invariant-loop : goal.invariant-loop
invariant-loop l = RowsSoFar l.live l.count (l.count - l.counter) l.place l.word.items l.start l.rest l.initial.rows l.rows
