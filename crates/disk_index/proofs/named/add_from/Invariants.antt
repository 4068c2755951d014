use Rattle.std.proofs.Common.{◌-◌}
use Rattle.disk_index.proofs.NamedLoop.{WalkSoFar}
use Rattle.disk_index.proofs.named.add_from.Given as goal

abbrev pub invariant-loop : goal.invariant-loop
invariant-loop g l = WalkSoFar (g.P.Admit.admitted l.pattern) l.range l.count (l.count - l.counter) l.place l.word.items l.start l.rest l.initial.hits.items l.hits.items
