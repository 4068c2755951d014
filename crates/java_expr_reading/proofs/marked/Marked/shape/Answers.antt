use Rattle.std.proofs.Common.{◌∙◌, ap, arith, drop}
use Rattle.java_model.specs.Grammar.Signs.{signs}
use Rattle.java_expr_reading.specs.Shapes.{shape_by}
use Rattle.java_expr_reading.specs.Input.{first_of}
use Rattle.java_expr_reading.proofs.PlaceLaws.{shape_read, shape_unread}
use Rattle.java_expr_reading.proofs.marked.Marked.shape.Goals as goal

pub returns-then-at-len : goal.returns-then-at-len
returns-then-at-len c =
    c.index.ensures ∙ shape_read (signs c.self.inside.tokens.now) c.self.inside.shapes.items c.args.at _ c.self.invariant.shaped (omega (arith, c.if-at-len.true, c.len.ensures))
    ∙ ap (λ ts. shape_by (first_of (drop c.args.at ts))) c.self.view_is

pub returns-else-at-len : goal.returns-else-at-len
returns-else-at-len c =
    shape_unread (signs c.self.inside.tokens.now) c.self.inside.shapes.items c.args.at c.self.invariant.shaped (omega (arith, c.if-at-len.false, c.len.ensures))
    ∙ ap (λ ts. shape_by (first_of (drop c.args.at ts))) c.self.view_is
