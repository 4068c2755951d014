use Rattle.std.proofs.Common.{None, refl}
use Rattle.java_tree.specs.declared.occurrence.TypeId.{TypeId}
use Rattle.java_model.specs.Scopes.Contexts.{body_of, this_type}
use Rattle.java_scope.specs.Linked.{is_body}
use Rattle.java_scope.proofs.Arounds.{all_innermost, no_body}
use Rattle.java_scope.proofs.Gathering.{begins, goes_on, ends, has_place, falls, gives, options}
use Rattle.java_scope.proofs.around.this_type.Goals as goal

pub loop-next-init : goal.loop-next-init
loop-next-init c = begins (options TypeId) body_of this_type (all_innermost body_of) is_body no_body c.args.scope.now None c.body-next.result refl c.body-next.ensures

pub linked-entry-requires : goal.linked-entry-requires
linked-entry-requires c = has_place (options TypeId) body_of this_type (all_innermost body_of) is_body no_body c.args.scope.now None c.loop-next.next c.in-Some.place c.loop-next.invariant c.in-Some.is

pub loop-next-preserved : goal.loop-next-preserved
loop-next-preserved c =
    goes_on (options TypeId) body_of this_type (all_innermost body_of) is_body no_body c.args.scope.now None None c.in-Some.place c.linked-entry.result.now.bound c.loop-next.next c.linked-entry.result.now.body
    c.loop-next.invariant c.in-Some.is c.linked-entry.ensures.at c.linked-entry.ensures.body c.in_default-body_of.ensures

pub loop-next-smaller : goal.loop-next-smaller
loop-next-smaller c = falls (options TypeId) body_of this_type (all_innermost body_of) is_body no_body c.args.scope.now c.in-Some.place c.loop-next.next c.linked-entry.result.now.body c.in-Some.is c.linked-entry.ensures.body

pub returns : goal.returns
returns c = ends (options TypeId) body_of this_type (all_innermost body_of) is_body no_body c.args.scope.now None c.loop-next.next c.loop-next.invariant c.in_default.is

pub returns-in-Some-body_of : goal.returns-in-Some-body_of
returns-in-Some-body_of c =
    gives body_of c.args.scope.now c.in-Some.place c.linked-entry.result.now.bound c.loop-next.next c.in-Some-body_of.t
    c.loop-next.invariant c.in-Some.is c.linked-entry.ensures.at c.in-Some-body_of.ensures
