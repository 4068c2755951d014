use Rattle.std.proofs.Common.{◌-◌}
use Rattle.disk_index.proofs.QueryLoop.{NotingSoFar}
use Rattle.disk_index.proofs.query.note_numbers.Given as goal

abbrev pub invariant-loop : goal.invariant-loop
invariant-loop l = NotingSoFar l.range l.count (l.count - l.counter) l.low l.start l.rest l.initial.found.items l.found.items
