use Rattle.std.proofs.Common.{◌≡◌, ◌∙◌, ap, subst, IfOk, drop}
use Rattle.java_expr_reading.specs.Input.{first_of, ident_in}
use Rattle.java_expr_reading.proofs.PlaceLaws.{token_at}
use Rattle.java_expr_reading.proofs.marked.Marked.ident.Goals as goal

pub returns-then-at-self : goal.returns-then-at-self
returns-then-at-self c =
    subst (λ o. IfOk c.ident_of.result (λ x. x ≡ ident_in o))
    (token_at c.self.inside.tokens.now c.args.at _ c.if-at-self.true ∙ ap (λ ts. first_of (drop c.args.at ts)) c.self.view_is) c.ident_of.ensures
