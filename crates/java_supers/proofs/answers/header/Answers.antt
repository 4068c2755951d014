use Rattle.std.proofs.Common.{rules, ◌≡◌, ap, sym, [], ◌∙◌}
use Rattle.java_supers.proofs.Noting.{header-answer}
use Rattle.java_supers.proofs.answers.header.Goals as goal

pub returns : goal.returns
returns c =
    let none : c.into_notes-blocked.result.1 ≡ [] = search rules in
    header-answer c.args.env.now c.supers_asking.new.asker c.args.t c.in_ok-types.types
    (c.in_ok-types.ensures.keeps (record { env = c.args.env.now; of = c.args.t }) (ap (λ l. l.env) c.new-looking.ensures, ap (λ l. l.of) c.new-looking.ensures))
    (sym c.into_notes-blocked.ensures.1 ∙ none) c.in_ok-types.ensures.value
