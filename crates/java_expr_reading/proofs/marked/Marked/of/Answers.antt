use Rattle.std.proofs.Common.{arith}
use Rattle.std.proofs.lemmas.List.{length-map}
use Rattle.java_model.specs.Grammar.Signs.{sign, signs}
use Rattle.java_expr_reading.proofs.EndLaws.{is_marked}
use Rattle.java_expr_reading.proofs.marked.Marked.of.Goals as goal

pub invariant_of-result : goal.invariant_of-result
invariant_of-result c =
    is_marked (signs c.args.tokens.now) c.in_ok-shapes.shapes.items c.as_slice.result.now c.in_ok-ends.ends.items c.in_ok-shapes.ensures c.as_slice.ensures.value
    (omega (arith, length-map c.args.tokens.now sign)) c.in_ok-ends.ensures.len c.in_ok-ends.ensures.closes
