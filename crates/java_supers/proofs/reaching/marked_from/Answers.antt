use Rattle.std.proofs.Common.{arith, [], ◌++◌, sym, ap, ◌∙◌, subst, true≢false}
use Rattle.std.specs.List.{flat_map}
use Rattle.java_supers.specs.Reaching.{next_in, Adds}
use Rattle.java_supers.proofs.Reaches.{goes-on}
use Rattle.java_supers.proofs.reaching.marked_from.Goals as goal

pub loop-step-preserved : goal.loop-step-preserved
loop-step-preserved c =
    goes-on c.args.nexts.now c.args.t c.loop-step.step c.loop-step.marks c.next_front.new.marks c.loop-step.front c.loop-step.seen c.in_ok-new.new c.append.new.self (omega arith)
    (λ e. true≢false (sym (c.is_empty.ensures.1 e) ∙ c.if-is_empty.false)) c.loop-step.invariant
    (subst (λ ts. Adds c.loop-step.marks c.next_front.new.marks (flat_map (next_in c.args.nexts.now) ts) [] c.in_ok-new.new) c.as_slice.ensures c.in_ok-new.ensures)
    (c.in_ok-append.ensures ∙ ap (λ ts. c.loop-step.seen ++ ts) (c.in_ok-from_slice.ensures ∙ c.as_slice-in-loop-step.ensures))
