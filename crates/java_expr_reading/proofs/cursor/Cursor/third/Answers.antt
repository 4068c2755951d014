use Rattle.std.proofs.Common.{◌∙◌, ap}
use Rattle.java_expr_reading.specs.Shapes.{shape_by}
use Rattle.java_expr_reading.specs.Input as spec
use Rattle.java_expr_reading.proofs.PlaceLaws.{drop_two}
use Rattle.java_expr_reading.proofs.cursor.Cursor.third.Goals as goal

pub returns : goal.returns
unfolding spec.sign spec.next
returns c =
    c.shape.ensures ∙ ap (λ ts. shape_by (spec.first_of ts)) (drop_two c.self.inside.marked.now c.self.inside.at) ∙ ap (λ i. spec.shape (spec.next (spec.next i))) c.self.view_is
