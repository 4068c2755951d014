use Rattle.std.proofs.Common.{ap, ◌++◌, ◌∷◌, [], ◌∙◌}
use Rattle.java_supers.proofs.Noting.{inherited-answer}
use Rattle.java_supers.proofs.answers.inherited_answer.Goals as goal

pub returns : goal.returns
returns c =
    inherited-answer c.args.env.now c.inherited_asking.new.asker c.args.of c.args.name.now c.in_ok-found.found c.push.new.self c.into_notes-free.result.1
    (c.in_ok-found.ensures.keeps (record { env = c.args.env.now; of = c.args.of }) (ap (λ l. l.env) c.new-looking.ensures, ap (λ l. l.of) c.new-looking.ensures))
    c.requires.none_declared c.in_ok-found.ensures.value (c.in_ok-push.ensures.ok ∙ ap (λ f. f ++ c.args.of ∷ []) c.into_notes-free.ensures.0) c.into_notes-free.ensures.1
