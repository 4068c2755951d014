use Rattle.std.proofs.Common.{◌-◌}
use Rattle.disk_index.proofs.QueryLoop.{WordsSoFar}
use Rattle.disk_index.proofs.query.note_blocks.Given as goal

abbrev pub invariant-loop : goal.invariant-loop
invariant-loop g l = WordsSoFar (g.P.Admit.admitted l.pattern) l.range l.count (l.count - l.counter) l.place l.word.items l.start l.rest l.initial.found.items l.found.items
