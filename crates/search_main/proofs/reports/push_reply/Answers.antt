use Rattle.std.proofs.Common.{◌≡◌, Err, sym, ap, subst, ◌∙◌}
use Rattle.java_model.specs.SearchPattern.Parts.{pattern_of, bad_parens}
use Rattle.search_main.specs.Legal.{pattern_in}
use Rattle.search_main.proofs.reports.push_reply.Goals as goal

pub push_cause-requires-in-Err-BadParens : goal.push_cause-requires-in-Err-BadParens
push_cause-requires-in-Err-BadParens c =
    let s = c.args.search.now in
    let read : pattern_of s.what s.limit s.rule s.case c.as_str-text.result.now ≡ Err (bad_parens c.in-Err-BadParens.at)
    = (c.in-Err-BadParens.ensures.bad_parens c.in-Err-BadParens.at).0 (ap Err c.in-Err-BadParens.field-0-is) in
    subst (λ n. pattern_in s ≡ Err (bad_parens n)) (sym c.in-Err-BadParens.at-is) (ap (pattern_of s.what s.limit s.rule s.case) (sym c.as_str-text.ensures) ∙ read)
