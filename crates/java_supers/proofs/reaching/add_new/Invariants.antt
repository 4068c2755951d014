use Rattle.std.proofs.Common.{take}
use Rattle.java_supers.specs.Reaching.{Adds}
use Rattle.java_supers.proofs.reaching.add_new.Given as goal

-- the types so far are added
abbrev pub invariant-loop-t : goal.invariant-loop-t
invariant-loop-t l = Adds l.fn.marks l.marks (take l.t-index l.types) l.fn.new l.new
