use Rattle.std.proofs.Common.{◌-◌}
use Rattle.disk_index.proofs.NamedLoop.{AddingSoFar}
use Rattle.disk_index.proofs.named.add_numbers.Given as goal

abbrev pub invariant-loop : goal.invariant-loop
invariant-loop l = AddingSoFar l.range l.count (l.count - l.counter) l.low l.start l.rest l.initial.hits.items l.hits.items
