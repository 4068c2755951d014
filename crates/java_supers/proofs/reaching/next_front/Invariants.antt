use Rattle.std.proofs.Common.{take, []}
use Rattle.std.specs.List.{flat_map}
use Rattle.java_supers.specs.Reaching.{next_in, Adds}
use Rattle.java_supers.proofs.reaching.next_front.Given as goal

-- what the types so far lead to is added
abbrev pub invariant-loop-t : goal.invariant-loop-t
invariant-loop-t l = Adds l.fn.marks l.marks (flat_map (next_in l.nexts) (take l.t-index l.front)) [] l.new
