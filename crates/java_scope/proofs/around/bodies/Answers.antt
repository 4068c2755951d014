use Rattle.java_tree.specs.declared.occurrence.TypeId.{TypeId}
use Rattle.java_scope.specs.Around.{bodies}
use Rattle.java_scope.specs.Linked.{is_body}
use Rattle.java_scope.proofs.Arounds.{all_bodies, no_body_list, body_list}
use Rattle.java_scope.proofs.Gathering.{begins, goes_on, ends, has_place, falls, lists}
use Rattle.java_scope.proofs.around.bodies.Goals as goal

pub loop-next-init : goal.loop-next-init
loop-next-init c = begins (lists TypeId) body_list bodies all_bodies is_body no_body_list c.args.scope.now c.new-types.result c.body-next.result c.new-types.ensures c.body-next.ensures

pub linked-entry-requires : goal.linked-entry-requires
linked-entry-requires c = has_place (lists TypeId) body_list bodies all_bodies is_body no_body_list c.args.scope.now c.loop-next.types c.loop-next.next c.in-Some.place c.loop-next.invariant c.in-Some.is

pub loop-next-preserved : goal.loop-next-preserved
loop-next-preserved c =
    goes_on (lists TypeId) body_list bodies all_bodies is_body no_body_list c.args.scope.now c.loop-next.types c.add_body.new.types c.in-Some.place c.linked-entry.result.now.bound c.loop-next.next c.linked-entry.result.now.body
    c.loop-next.invariant c.in-Some.is c.linked-entry.ensures.at c.linked-entry.ensures.body c.in_ok-add_body.ensures

pub loop-next-smaller : goal.loop-next-smaller
loop-next-smaller c = falls (lists TypeId) body_list bodies all_bodies is_body no_body_list c.args.scope.now c.in-Some.place c.loop-next.next c.linked-entry.result.now.body c.in-Some.is c.linked-entry.ensures.body

pub returns : goal.returns
returns c = ends (lists TypeId) body_list bodies all_bodies is_body no_body_list c.args.scope.now c.loop-next.types c.loop-next.next c.loop-next.invariant c.in_default.is
