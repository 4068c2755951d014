use Rattle.std.proofs.Common.{◌≡◌, true, false, eqb, length, map, sym, ap, ◌∙◌, arith}
use Rattle.std.proofs.lemmas.Iterator.Consumers.{YieldsList-end}
use Rattle.std.proofs.lemmas.Iterator.Splits.{YieldsList-from_str_split}
use Rattle.java_model.specs.SearchPattern.Texts.{is_empty, trimmed}
use Rattle.search_pattern.proofs.Separating.{is_empty_is, no_params, some_params, each_trimmed}
use Rattle.search_pattern.proofs.params.params_in.Goals as goal

pub returns-then-is_empty : goal.returns-then-is_empty
returns-then-is_empty c =
    let h : is_empty (trimmed c.args.inside.now) ≡ true = is_empty_is (trimmed c.args.inside.now) ∙ (ap (λ xs. eqb (length xs) 0) (sym c.trimmed.ensures) ∙ (sym c.is_empty.ensures ∙ c.if-is_empty.true)) in
    c.new-params.ensures ∙ sym (no_params c.args.inside.now h)

pub returns : goal.returns
returns c =
    let h : is_empty (trimmed c.args.inside.now) ≡ false = is_empty_is (trimmed c.args.inside.now) ∙ (ap (λ xs. eqb (length xs) 0) (sym c.trimmed.ensures) ∙ (sym c.is_empty.ensures ∙ c.if-is_empty.false)) in
    let all = YieldsList-end (YieldsList-from_str_split 44 c.args.inside.now (omega arith) (cc) (cc) (cc)) c.loop-param.yielded _ c.loop-param.yielded_by _ _ c.in-None.is c.next.ensures.steps in
    c.loop-param.invariant ∙ (each_trimmed c.loop-param.yielded ∙ (ap (map trimmed) all.0 ∙ sym (some_params c.args.inside.now h)))
