use Rattle.java_members.specs.Inheriting.{AreOf}
use Rattle.java_members.proofs.walk.settle.Given as goal

-- All answers hold.
abbrev pub invariant-loop : goal.invariant-loop
invariant-loop g l = AreOf (g.I.Inherits.all l.rule) l.answers.answers
