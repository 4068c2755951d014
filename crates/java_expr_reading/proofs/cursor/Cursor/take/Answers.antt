use Rattle.std.proofs.Common.{◌≢◌, ◌+◌, ◌∙◌, sym, ap, drop}
use Rattle.java_expr_reading.specs.Shapes.{shape_by}
use Rattle.java_expr_reading.specs.Input as spec
use Rattle.java_expr_reading.specs.declared.shape.Shape.TheVariants as shapes
use Rattle.java_expr_reading.proofs.PlaceLaws.{drop_one, some_left}
use Rattle.java_expr_reading.proofs.cursor.Cursor.take.Goals as goal

pub invariant_of-self : goal.invariant_of-self
unfolding spec.sign
invariant_of-self c =
    let some : shape_by (spec.first_of (drop c.self.inside.at c.self.inside.marked.now)) ≢ shapes.End = λ e. c.requires (sym (ap spec.shape c.self.view_is) ∙ e) in
    (some_left c.self.inside.marked.now c.self.inside.at some, c.self.invariant.1)

pub returns : goal.returns
unfolding spec.next
returns c =
    ap (λ ts. record { rest = ts; at = c.self.inside.at + 1; bodies = c.self.inside.bodies }) (drop_one c.self.inside.marked.now c.self.inside.at) ∙ ap spec.next c.self.view_is
