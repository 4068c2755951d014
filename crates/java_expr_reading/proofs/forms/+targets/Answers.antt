use Rattle.std.proofs.Common.{ap, sym, ◌∙◌}
use Rattle.std.specs.Option.{option_copied}
use Rattle.java_tree.specs.declared.expr.Expr.{out-Expr}
use Rattle.java_tree.specs.declared.expr.First.{out-First}
use Rattle.java_model.proofs.Grammar.Layers.{out-first-Parenthesized}
use Rattle.java_expr_reading.specs.Targets.{first_target_in, expr_target_in}
use Rattle.java_expr_reading.proofs.FormLaws.{target_expr_out, target_first_out, target_selector_out, target_last, target_alone, last_is}
use Rattle.java_expr_reading.proofs.forms.+targets.Goals as goal

pub is_target-returns-in-Some : goal.is_target-returns-in-Some
is_target-returns-in-Some t c =
    let p = c.args.p.now in
    let last = last_is p.selectors c.as_slice.result.now c.last.result c.as_slice.ensures c.last.ensures.value ∙ ap option_copied c.in-Some.is in
    c.is_target_selector.ensures ∙ sym (target_selector_out c.in-Some.selector.now) ∙ sym (target_last p c.in-Some.selector.now last)

pub is_target-returns-in-None : goal.is_target-returns-in-None
is_target-returns-in-None t c =
    let p = c.args.p.now in
    let last = last_is p.selectors c.as_slice.result.now c.last.result c.as_slice.ensures c.last.ensures.value ∙ ap option_copied c.in-None.is in
    c.is_target_first.ensures ∙ sym (target_first_out p.first) ∙ sym (target_alone p last)

pub is_target_first-returns-in-Parenthesized : goal.is_target_first-returns-in-Parenthesized
is_target_first-returns-in-Parenthesized t c =
    let x = c.in-Parenthesized.x in
    c.is_target_expr.ensures ∙ ap (λ y. expr_target_in (out-Expr y)) c.get.ensures ∙ sym (target_expr_out x)
    ∙ sym (ap (λ f. first_target_in (out-First f)) c.in-Parenthesized.is ∙ ap first_target_in (out-first-Parenthesized x))
