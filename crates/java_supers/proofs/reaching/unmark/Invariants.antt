use Rattle.std.proofs.Common.{drop}
use Rattle.java_supers.proofs.Reaches.{OnlyMarked}
use Rattle.java_supers.proofs.reaching.unmark.Given as goal

-- Only the types that are left are marked.
abbrev pub invariant-loop-t : goal.invariant-loop-t
invariant-loop-t l = OnlyMarked l.marks (drop l.t-index l.types)
