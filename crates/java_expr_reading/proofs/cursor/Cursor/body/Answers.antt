use Rattle.std.proofs.Common.{◌∙◌, ◌++◌, ◌-◌, ◌∷◌, [], sym, ap, drop}
use Rattle.java_expr_reading.specs.Input as spec
use Rattle.java_expr_reading.proofs.PlaceLaws.{passes_body}
use Rattle.java_expr_reading.proofs.cursor.Cursor.body.Goals as goal

pub returns-in_ok-push-in-LeftBrace : goal.returns-in_ok-push-in-LeftBrace
unfolding spec.sign
returns-in_ok-push-in-LeftBrace c =
    let m = c.self.inside.marked.now in
    let e = ap spec.shape c.self.view_is ∙ sym c.shape.ensures ∙ c.in-LeftBrace.is in
    sym (ap (spec.body c.args.depth_left) c.self.view_is)
    ∙ passes_body m c.self.inside.at c.end_of_body-end.result c.args.depth_left c.span-span.result.start c.self.inside.bodies
    (c.span-span.ensures.brace e) c.end_of_body-end.ensures.after c.end_of_body-end.ensures.later c.end_of_body-end.ensures.within
    ∙ ap (λ bs. spec.Done c.span-span.result.start (record { rest = drop c.end_of_body-end.result m; at = c.end_of_body-end.result; bodies = bs })) (ap (λ d. c.self.inside.bodies ++ record { first = c.self.inside.at; last = c.end_of_body-end.result - 1; depth = d } ∷ []) (sym c.saturating_sub.ensures) ∙ sym c.in_ok-push-in-LeftBrace.ensures.ok)
