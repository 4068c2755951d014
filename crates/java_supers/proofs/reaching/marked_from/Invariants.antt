use Rattle.java_supers.proofs.Reaches.{Reaches}
use Rattle.java_supers.proofs.reaching.marked_from.Given as goal

-- what is left to reach
abbrev pub invariant-loop-step : goal.invariant-loop-step
invariant-loop-step l = Reaches l.nexts l.fn.t l.step l.marks l.front l.seen
