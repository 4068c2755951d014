use Rattle.java_scope.specs.Linked.{upto}
use Rattle.java_scope.proofs.Gathering.{Remains, lists}
use Rattle.java_tree.specs.declared.occurrence.TypeId.{TypeId}
use Rattle.java_model.specs.Bindings.Calls.{reaching_types}
use Rattle.java_scope.proofs.around.reaching_types.Given as goal

-- the types so far, and those of the bounds that are left
abbrev pub invariant-loop-next : goal.invariant-loop-next
invariant-loop-next l = Remains (lists TypeId) reaching_types l.scope l.types l.next

abbrev pub decreases-loop-next : goal.decreases-loop-next
decreases-loop-next l = upto l.next
