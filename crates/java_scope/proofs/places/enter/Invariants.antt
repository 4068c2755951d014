use Rattle.std.proofs.Common.{◌≡◌, ◌-◌, drop, slice_get}
use Rattle.java_model.specs.Tree.Children.{children}
use Rattle.java_model.specs.Scopes.Scoping.{inside, spots}
use Rattle.java_nodes.specs.Seen.{seen}
use Rattle.java_scope.specs.Spots.{spot}
use Rattle.java_scope.specs.Units.{context}
use Rattle.java_scope.proofs.places.enter.Given as goal

-- the child is among those that are left
abbrev pub invariant-loop-before : goal.invariant-loop-before
invariant-loop-before l =
    slice_get (spots (context l.unit) l.scope (drop l.before (children l.unit.types.types.now (seen l.node)))) (l.at - l.before)
    ≡ slice_get (inside (context l.unit) (spot l.fn.scope (seen l.node))) l.at
