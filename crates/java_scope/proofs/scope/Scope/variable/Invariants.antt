use Rattle.java_scope.specs.Linked.{upto}
use Rattle.java_scope.proofs.Linking.{Follows}
use Rattle.java_scope.proofs.scope.Scope.variable.Given as goal

-- no variable of the name after the next place, whose name has the key
abbrev pub invariant-loop-next : goal.invariant-loop-next
invariant-loop-next l = Follows l.name l.self l.next

abbrev pub decreases-loop-next : goal.decreases-loop-next
decreases-loop-next l = upto l.next
