use Rattle.std.proofs.Common.{ap, ◌∙◌}
use Rattle.java_bind_expr.specs.Around.{first_with_method}
use Rattle.java_bind_expr.proofs.Enclosing.{innermost-has_method}
use Rattle.java_bind_expr.proofs.calls.enclosing_type.Goals as goal

pub returns : goal.returns
returns c =
    c.in_ok-found.ensures ∙ ap (first_with_method c.args.unit.now.env.now c.args.name.now) (c.as_slice.ensures ∙ c.in_ok-around.ensures)
    ∙ innermost-has_method c.args.unit.now.env.now c.args.name.now c.args.scope.now
