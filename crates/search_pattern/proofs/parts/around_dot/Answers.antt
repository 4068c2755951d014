use Rattle.std.proofs.Common.{Some, sym, ap, ◌∙◌}
use Rattle.search_pattern.proofs.Splitting.{dot_found, no_dot_found, qualified, unqualified}
use Rattle.search_pattern.proofs.parts.around_dot.Goals as goal

pub returns-in-Some-clause-qualification : goal.returns-in-Some-clause-qualification
returns-in-Some-clause-qualification c =
    let e = qualified c.args.text.now c.in-Some.qualification.now c.in-Some.name.now (dot_found c.args.text.now c.in-Some.qualification.now c.in-Some.name.now c.in-Some.ensures.cases) in
    ap Some c.trimmed.ensures ∙ sym (ap (λ p. p.0) e)

pub returns-in-Some-clause-name : goal.returns-in-Some-clause-name
returns-in-Some-clause-name c =
    let e = qualified c.args.text.now c.in-Some.qualification.now c.in-Some.name.now (dot_found c.args.text.now c.in-Some.qualification.now c.in-Some.name.now c.in-Some.ensures.cases) in
    c.trimmed-in-Some.ensures ∙ sym (ap (λ p. p.1) e)

pub returns-in-None-clause-qualification : goal.returns-in-None-clause-qualification
returns-in-None-clause-qualification c = sym (ap (λ p. p.0) (unqualified c.args.text.now (no_dot_found c.args.text.now c.in-None.ensures.cases)))

pub returns-in-None-clause-name : goal.returns-in-None-clause-name
returns-in-None-clause-name c = c.trimmed-in-None.ensures ∙ sym (ap (λ p. p.1) (unqualified c.args.text.now (no_dot_found c.args.text.now c.in-None.ensures.cases)))
