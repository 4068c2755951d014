use Rattle.std.proofs.Common.{None}
use Rattle.java_tree.specs.declared.occurrence.TypeId.{TypeId}
use Rattle.java_model.specs.Scopes.Contexts.{this_type}
use Rattle.java_scope.specs.Linked.{upto}
use Rattle.java_scope.proofs.Gathering.{Remains, options}
use Rattle.java_scope.proofs.around.this_type.Given as goal

-- none so far, and that of the bounds that are left
abbrev pub invariant-loop-next : goal.invariant-loop-next
invariant-loop-next l = Remains (options TypeId) this_type l.scope None l.next

abbrev pub decreases-loop-next : goal.decreases-loop-next
decreases-loop-next l = upto l.next
