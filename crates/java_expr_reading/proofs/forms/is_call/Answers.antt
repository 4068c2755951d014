use Rattle.std.proofs.Common.{ap, sym, ◌∙◌}
use Rattle.std.specs.Option.{option_copied}
use Rattle.java_tree.specs.declared.expr.First.{out-First}
use Rattle.java_tree.specs.declared.expr.Selector.{out-Selector}
use Rattle.java_model.specs.Grammar.Forms.{is_call_in, is_call_selector_in}
use Rattle.java_expr_reading.proofs.FormLaws.{last_some, last_is}
use Rattle.java_expr_reading.proofs.forms.is_call.Goals as goal

pub returns-in-Some : goal.returns-in-Some
returns-in-Some c =
    let p = c.args.p.now in
    let last = last_is p.selectors c.as_slice.result.now c.last.result c.as_slice.ensures c.last.ensures.value ∙ ap option_copied c.in-Some.is in
    c.is_call_selector.ensures ∙ sym (last_some (λ s. is_call_selector_in (out-Selector s)) (is_call_in (out-First p.first)) c.in-Some.selector.now p.selectors last)
