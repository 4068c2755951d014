use Rattle.std.proofs.Common.{◌≡◌, true, false, eqb, length, sym, ap, ◌∙◌, arith, rules, tests}
use Rattle.std.proofs.lemmas.Iterator.Search.{any_from_yields_List}
use Rattle.std.proofs.lemmas.Iterator.Splits.{YieldsList-from_str_split}
use Rattle.std.specs.List.{list_any, slice_split}
use Rattle.java_model.specs.SearchPattern.Texts.{is_empty, trimmed}
use Rattle.search_pattern.proofs.Separating.{is_empty_is, no_params, some_params, any_empty}
use Rattle.search_pattern.proofs.params.has_empty_param.Goals as goal

pub returns-then-is_empty : goal.returns-then-is_empty
returns-then-is_empty c =
    let h : is_empty (trimmed c.args.inside.now) ≡ true = is_empty_is (trimmed c.args.inside.now) ∙ (ap (λ xs. eqb (length xs) 0) (sym c.trimmed.ensures) ∙ (sym c.is_empty.ensures ∙ c.if-is_empty.true)) in
    sym (ap (list_any is_empty) (no_params c.args.inside.now h))

pub returns : goal.returns
returns c =
    let h : is_empty (trimmed c.args.inside.now) ≡ false = is_empty_is (trimmed c.args.inside.now) ∙ (ap (λ xs. eqb (length xs) 0) (sym c.trimmed.ensures) ∙ (sym c.is_empty.ensures ∙ c.if-is_empty.false)) in
    any_from_yields_List (λ part. eqb (length (trimmed part)) 0) _ _ c.any.result c.any.ensures.ran (YieldsList-from_str_split 44 c.args.inside.now (omega arith) c.split.ensures.text c.split.ensures.has_more c.split.ensures.pattern) (λ x b q k. search (rules, tests))
    ∙ (any_empty (slice_split (λ b. eqb b 44) c.args.inside.now) ∙ sym (ap (list_any is_empty) (some_params c.args.inside.now h)))
