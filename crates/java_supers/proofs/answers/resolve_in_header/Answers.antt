use Rattle.std.proofs.Common.{rules, ◌≡◌, ap, [], ◌∙◌, sym}
use Rattle.java_model.specs.Names.Supertypes.{header_ask}
use Rattle.java_model.specs.Names.TypeNames.{resolve_by}
use Rattle.java_resolve.specs.Resolving.{scope_of}
use Rattle.java_supers.proofs.Noting.{name-answer}
use Rattle.java_supers.proofs.answers.resolve_in_header.Goals as goal

pub returns : goal.returns
returns c =
    let none : c.into_notes-blocked.result.1 ≡ [] = search rules in
    name-answer c.args.env.now c.resolve.new.asker c.args.t c.args.d.now c.in_ok-of.of (λ a. resolve_by c.args.env.now a (scope_of c.outline.result.now c.as_slice.result.now) c.args.name.now)
    (c.in_ok-of.ensures.keeps (record { env = c.args.env.now; of = c.args.t }) (ap (λ l. l.env) c.new-looking.ensures, ap (λ l. l.of) c.new-looking.ensures))
    (sym c.into_notes-blocked.ensures.1 ∙ none) c.requires.declared c.in_ok-of.ensures.value
    ∙ ap (λ s. resolve_by c.args.env.now (header_ask c.args.env.now c.args.t) s c.args.name.now)
    (ap (λ o. scope_of o c.as_slice.result.now) c.outline.ensures ∙ ap (scope_of c.args.d.now.outline) c.as_slice.ensures ∙ c.in_ok-bounds.ensures)
