use Rattle.std.proofs.Common.{◌≡◌, arith, rules, length, ap, subst, ◌∙◌}
use Rattle.java_model.specs.Names.Environments.{declared}
use Rattle.java_model.specs.Names.Supertypes.{count}
use Rattle.java_env.specs.Inheriting.{ways}
use Rattle.java_env.specs.Walks.{Goes, has}
use Rattle.java_env.proofs.Walking.{ends, ends-late, goes-on, starts-added}
use Rattle.java_env.proofs.inherited.reached.Goals as goal

pub loop-step-init : goal.loop-step-init
loop-step-init c = record {
  within = omega arith;
  reaching = starts-added (ways c.args.env.now c.args.of) c.args.t (has c.new-seen.result) (has c.add_one.new.seen) c.new-front.result c.add_one.new.new (λ u. search rules) c.new-front.ensures c.in_ok-add_one.ensures;
}

pub loop-step-preserved : goal.loop-step-preserved
loop-step-preserved c =
    let many : c.len-step-end.result ≡ count c.args.env.now = c.len-step-end.ensures ∙ ap (λ e. length (declared e)) c.types.ensures in
    record {
      within = omega (arith, c.loop-step-test.true, many);
      reaching = goes-on (ways c.args.env.now c.args.of) c.loop-step.step c.args.t c.loop-step.front c.in_ok-front.front (has c.loop-step.seen) (has c.next_front.new.seen) c.loop-step.invariant.reaching
          (subst (λ fs. Goes (ways c.args.env.now c.args.of) fs (has c.loop-step.seen) c.in_ok-front.front (has c.next_front.new.seen)) c.as_slice.ensures c.in_ok-front.ensures);
    }

pub returns-then-is_empty : goal.returns-then-is_empty
returns-then-is_empty c =
    ends (ways c.args.env.now c.args.of) c.loop-step.step (count c.args.env.now) c.args.t c.loop-step.front (has c.loop-step.seen) c.loop-step.invariant.within (c.is_empty.ensures.0 c.if-is_empty.true) c.loop-step.invariant.reaching

pub returns : goal.returns
returns c =
    let many : c.len-step-end.result ≡ count c.args.env.now = c.len-step-end.ensures ∙ ap (λ e. length (declared e)) c.types.ensures in
    let done : c.loop-step.step ≡ count c.args.env.now = omega (arith, c.loop-step-test.false, c.loop-step.invariant.within, many) in
    ends-late (ways c.args.env.now c.args.of) c.loop-step.step (count c.args.env.now) c.args.t c.loop-step.front (has c.loop-step.seen) done c.loop-step.invariant.reaching
