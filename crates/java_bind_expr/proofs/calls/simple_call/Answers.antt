use Rattle.std.proofs.Common.{Some, sym, ap, ◌∙◌}
use Rattle.std.specs.Option.{option_map}
use Rattle.java_model.specs.Names.Methods.{methods}
use Rattle.java_model.specs.Bindings.Calls.{enclosing_type}
use Rattle.java_scope.specs.Units.{context}
use Rattle.java_bind_expr.specs.Around.{first_with_method}
use Rattle.java_bind_expr.proofs.Called.{called_around, called_nowhere}
use Rattle.java_bind_expr.proofs.Enclosing.{innermost-has_method}
use Rattle.java_bind_expr.proofs.calls.simple_call.Goals as goal

pub returns-in-Some : goal.returns-in-Some
returns-in-Some c =
    called_around (context c.args.unit.now) c.args.scope.now c.args.name.now c.args.arguments.now
    (enclosing_type (context c.args.unit.now) c.args.scope.now c.args.name.now) c.as_slice-in-Some.result.now c.chosen_at.result
    (ap Some c.as_slice-in-Some.ensures ∙ sym c.in-Some.is ∙ c.in_ok-found.ensures
    ∙ ap (λ ts. option_map (λ u. methods c.args.unit.now.env.now u c.args.name.now) (first_with_method c.args.unit.now.env.now c.args.name.now ts))
    (c.as_slice.ensures ∙ c.in_ok-around.ensures)
    ∙ ap (option_map (λ u. methods c.args.unit.now.env.now u c.args.name.now))
    (innermost-has_method c.args.unit.now.env.now c.args.name.now c.args.scope.now))
    c.chosen_at.ensures

pub returns : goal.returns
returns c =
    called_nowhere (context c.args.unit.now) c.args.scope.now c.args.name.now c.args.arguments.now
    (enclosing_type (context c.args.unit.now) c.args.scope.now c.args.name.now)
    (sym c.in-None.is ∙ c.in_ok-found.ensures
    ∙ ap (λ ts. option_map (λ u. methods c.args.unit.now.env.now u c.args.name.now) (first_with_method c.args.unit.now.env.now c.args.name.now ts))
    (c.as_slice.ensures ∙ c.in_ok-around.ensures)
    ∙ ap (option_map (λ u. methods c.args.unit.now.env.now u c.args.name.now))
    (innermost-has_method c.args.unit.now.env.now c.args.name.now c.args.scope.now))
