use Rattle.std.proofs.Common.{length}
use Rattle.std.specs.Prelude.{slice_get}
use Rattle.std.specs.Option.{option_and_then}
use Rattle.java_types.specs.Entries.{around_in}
use Rattle.java_types.proofs.Declaring.{around_more, around_begun, around_done, around_ended}
use Rattle.java_types.proofs.around.types_around.Goals as goal

pub loop-step-init : goal.loop-step-init
loop-step-init c = around_begun (λ k. option_and_then (λ t. t.parent) (slice_get c.args.types.now k)) (length c.args.types.now) c.args.number c.new-numbers.result.items c.new-numbers.ensures.items

pub loop-step-preserved : goal.loop-step-preserved
loop-step-preserved c =
    around_more (λ k. option_and_then (λ t. t.parent) (slice_get c.args.types.now k)) (length c.args.types.now) c.loop-step.step c.in-Some.outer c.loop-step.next c.parent_in-next.result
    c.loop-step.numbers.items c.push.new.self.items (around_in c.args.types.now c.args.number)
    c.loop-step-test.true c.loop-step.invariant c.in-Some.is c.in_ok-push.ensures.items c.parent_in-next.ensures

pub returns-in_default : goal.returns-in_default
returns-in_default c =
    around_ended (λ k. option_and_then (λ t. t.parent) (slice_get c.args.types.now k)) _ c.loop-step.next c.loop-step.numbers.items (around_in c.args.types.now c.args.number) c.in_default.is c.loop-step.invariant

pub returns : goal.returns
returns c =
    around_done (λ k. option_and_then (λ t. t.parent) (slice_get c.args.types.now k)) (length c.args.types.now) c.loop-step.step c.loop-step.next c.loop-step.numbers.items (around_in c.args.types.now c.args.number) c.loop-step-test.false c.loop-step.invariant
