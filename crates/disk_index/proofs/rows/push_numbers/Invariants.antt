use Rattle.std.proofs.Common.{◌-◌, ◌∷◌}
use Rattle.disk_index.proofs.RowLoop.{NumbersSeen}
use Rattle.disk_index.proofs.rows.push_numbers.Given as goal

abbrev pub invariant-loop : goal.invariant-loop
invariant-loop l = NumbersSeen l.live l.count (l.count - l.counter) l.low (l.byte ∷ l.key) l.start l.rest l.initial.rows l.rows
