use Rattle.std.proofs.Common.{map, ap}
use Rattle.java_model.specs.Names.TypeNames.{TypeBound}
use Rattle.java_model.specs.Scopes.Contexts.{type_bound, type_bounds}
use Rattle.java_resolve.specs.Resolving.{bound_of}
use Rattle.java_scope.specs.Linked.{is_around}
use Rattle.java_scope.proofs.TypeBounds.{all_types, no_types}
use Rattle.java_scope.proofs.Gathering.{begins, goes_on, ends, has_place, falls, lists}
use Rattle.java_scope.proofs.around.type_bounds.Goals as goal

pub loop-next-init : goal.loop-next-init
loop-next-init c =
    begins (lists TypeBound) type_bound type_bounds all_types is_around no_types c.args.scope.now (map bound_of c.new-bounds.result) c.around-next.result
    (ap (map bound_of) c.new-bounds.ensures) c.around-next.ensures

pub linked-entry-requires : goal.linked-entry-requires
linked-entry-requires c =
    has_place (lists TypeBound) type_bound type_bounds all_types is_around no_types c.args.scope.now (map bound_of c.loop-next.bounds) c.loop-next.next c.in-Some.place
    c.loop-next.invariant c.in-Some.is

pub loop-next-preserved : goal.loop-next-preserved
loop-next-preserved c =
    goes_on (lists TypeBound) type_bound type_bounds all_types is_around no_types c.args.scope.now (map bound_of c.loop-next.bounds) (map bound_of c.add_type_bound.new.bounds)
    c.in-Some.place c.linked-entry.result.now.bound c.loop-next.next c.linked-entry.result.now.outer
    c.loop-next.invariant c.in-Some.is c.linked-entry.ensures.at c.linked-entry.ensures.outer c.in_ok-add_type_bound.ensures

pub loop-next-smaller : goal.loop-next-smaller
loop-next-smaller c =
    falls (lists TypeBound) type_bound type_bounds all_types is_around no_types c.args.scope.now c.in-Some.place c.loop-next.next c.linked-entry.result.now.outer
    c.in-Some.is c.linked-entry.ensures.outer

pub returns : goal.returns
returns c =
    ends (lists TypeBound) type_bound type_bounds all_types is_around no_types c.args.scope.now (map bound_of c.loop-next.bounds) c.loop-next.next
    c.loop-next.invariant c.in_default.is
