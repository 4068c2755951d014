use Rattle.java_scope.specs.Linked.{upto}
use Rattle.java_scope.proofs.Gathering.{Remains, lists}
use Rattle.java_tree.specs.declared.occurrence.TypeId.{TypeId}
use Rattle.java_scope.specs.Around.{bodies}
use Rattle.java_scope.proofs.around.bodies.Given as goal

-- the types so far, and those of the bounds that are left
abbrev pub invariant-loop-next : goal.invariant-loop-next
invariant-loop-next l = Remains (lists TypeId) bodies l.scope l.types l.next

abbrev pub decreases-loop-next : goal.decreases-loop-next
decreases-loop-next l = upto l.next
