use Rattle.std.proofs.Common.{◌-◌}
use Rattle.disk_index.proofs.EntryLoop.{SoFar}
use Rattle.disk_index.proofs.entries.entries_at.Given as goal

abbrev pub invariant-loop : goal.invariant-loop
invariant-loop l = SoFar l.file l.start l.count (l.count - l.counter) l.previous l.rest l.places.items
