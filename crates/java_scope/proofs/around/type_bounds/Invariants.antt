use Rattle.std.proofs.Common.{map}
use Rattle.java_model.specs.Names.TypeNames.{TypeBound}
use Rattle.java_model.specs.Scopes.Contexts.{type_bounds}
use Rattle.java_resolve.specs.Resolving.{bound_of}
use Rattle.java_scope.specs.Linked.{upto}
use Rattle.java_scope.proofs.Gathering.{Remains, lists}
use Rattle.java_scope.proofs.around.type_bounds.Given as goal

-- the bounds so far, and those that are left
abbrev pub invariant-loop-next : goal.invariant-loop-next
invariant-loop-next l = Remains (lists TypeBound) type_bounds l.scope (map bound_of l.bounds) l.next

abbrev pub decreases-loop-next : goal.decreases-loop-next
decreases-loop-next l = upto l.next
