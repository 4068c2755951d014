use Rattle.std.proofs.Common.{Some, None, sym, ap, ◌∙◌, arith}
use Rattle.std.proofs.lemmas.Str.Pattern.{split_parts, strip_suffix_char}
use Rattle.java_model.specs.SearchPattern.Parts.{before_params}
use Rattle.search_pattern.proofs.Splitting.{before_left, before_none, inside_none, inside_found}
use Rattle.search_pattern.proofs.parts.around_params.Goals as goal

pub returns-in-Some-clause-before : goal.returns-in-Some-clause-before
returns-in-Some-clause-before c =
    let p = split_parts 40 c.args.text.now (Some (c.in-Some.before, c.in-Some.rest)) c.in-Some.ensures.cases (omega arith) in
    sym (ap before_params p.0 ∙ before_left c.in-Some.before.now c.in-Some.rest.now p.1)

pub returns-in-Some-clause-inside : goal.returns-in-Some-clause-inside
returns-in-Some-clause-inside c =
    let p = split_parts 40 c.args.text.now (Some (c.in-Some.before, c.in-Some.rest)) c.in-Some.ensures.cases (omega arith) in
    let s = strip_suffix_char 41 c.in-Some.rest.now c.strip_suffix.result c.strip_suffix.ensures.cases (omega arith) in
    inside_found c.args.what c.args.text.now c.in-Some.before.now c.in-Some.rest.now c.strip_suffix.result p.1 p.0 c.requires s

pub returns-in-None-clause-before : goal.returns-in-None-clause-before
returns-in-None-clause-before c =
    sym (before_none c.args.text.now (split_parts 40 c.args.text.now None c.in-None.ensures.cases (omega arith)))

pub returns-in-None-clause-inside : goal.returns-in-None-clause-inside
returns-in-None-clause-inside c =
    sym (inside_none c.args.text.now (split_parts 40 c.args.text.now None c.in-None.ensures.cases (omega arith)))
