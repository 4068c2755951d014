use Rattle.java_tree.specs.declared.occurrence.TypeId.{TypeId}
use Rattle.java_model.specs.Bindings.Calls.{reaching_type, reaching_types}
use Rattle.java_scope.specs.Linked.{is_around}
use Rattle.java_scope.proofs.Arounds.{all_reaching, no_reaching}
use Rattle.java_scope.proofs.Gathering.{begins, goes_on, ends, has_place, falls, lists}
use Rattle.java_scope.proofs.around.reaching_types.Goals as goal

pub loop-next-init : goal.loop-next-init
loop-next-init c = begins (lists TypeId) reaching_type reaching_types all_reaching is_around no_reaching c.args.scope.now c.new-types.result c.around-next.result c.new-types.ensures c.around-next.ensures

pub linked-entry-requires : goal.linked-entry-requires
linked-entry-requires c = has_place (lists TypeId) reaching_type reaching_types all_reaching is_around no_reaching c.args.scope.now c.loop-next.types c.loop-next.next c.in-Some.place c.loop-next.invariant c.in-Some.is

pub loop-next-preserved : goal.loop-next-preserved
loop-next-preserved c =
    goes_on (lists TypeId) reaching_type reaching_types all_reaching is_around no_reaching c.args.scope.now c.loop-next.types c.add_reaching.new.types c.in-Some.place c.linked-entry.result.now.bound c.loop-next.next c.linked-entry.result.now.outer
    c.loop-next.invariant c.in-Some.is c.linked-entry.ensures.at c.linked-entry.ensures.outer c.in_ok-add_reaching.ensures

pub loop-next-smaller : goal.loop-next-smaller
loop-next-smaller c = falls (lists TypeId) reaching_type reaching_types all_reaching is_around no_reaching c.args.scope.now c.in-Some.place c.loop-next.next c.linked-entry.result.now.outer c.in-Some.is c.linked-entry.ensures.outer

pub returns : goal.returns
returns c = ends (lists TypeId) reaching_type reaching_types all_reaching is_around no_reaching c.args.scope.now c.loop-next.types c.loop-next.next c.loop-next.invariant c.in_default.is
