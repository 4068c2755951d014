use Rattle.std.proofs.Common.{take}
use Rattle.java_env.specs.Inheriting.{ways}
use Rattle.java_env.specs.Walks.{Goes, has}
use Rattle.java_env.proofs.inherited.next_front.Given as goal

-- what is next to the types so far
abbrev pub invariant-loop-t : goal.invariant-loop-t
invariant-loop-t l = Goes (ways l.env l.of) (take l.t-index l.front) (has l.fn.seen) l.new (has l.seen)
