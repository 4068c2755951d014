use Rattle.std.proofs.Common.{ap, ◌∙◌, ◌-◌, arith, length-set}
use Rattle.java_expr_reading.specs.Marking.{end_from}
use Rattle.java_expr_reading.proofs.EndLaws.{keeps_ends}
use Rattle.java_expr_reading.proofs.ends.ends_of.Goals as goal

pub loop-at-preserved : goal.loop-at-preserved
loop-at-preserved c =
    let before = c.loop-at.invariant in
    let kept = keeps_ends c.args.shapes.now c.loop-at.at _ c.loop-at.ends.items c.end_from-end.result before.each_place (omega arith) (omega arith) before.bounded before.closes
    (c.end_from-end.ensures ∙ ap (end_from _ (c.loop-at.at - 1)) c.as_slice.ensures.value) in
    record { each_place = length-set c.loop-at.ends.items (c.loop-at.at - 1) c.end_from-end.result ∙ before.each_place; bounded = kept.bounded; closes = kept.closes }
