use Rattle.std.proofs.Common.{◌++◌, ap, sym, ◌∙◌}
use Rattle.java_scope.specs.Units.{context}
use Rattle.java_bind.specs.Lasts.{last_of}
use Rattle.java_bind.proofs.Lasts.{created_at_last}
use Rattle.java_bind.proofs.creations.at_created.Goals as goal

pub returns-in_ok-at_identifier-in-Some-clause-adds : goal.returns-in_ok-at_identifier-in-Some-clause-adds
returns-in_ok-at_identifier-in-Some-clause-adds c =
    c.in_ok-at_identifier-in-Some.ensures.adds
    ∙ ap (λ os. c.args.found.now.items ++ os)
    (sym (created_at_last (context c.args.unit.now) c.args.scope.now c.args.c.now c.args.t.now c.args.arguments.now c.args.c.now.class c.in-Some.i.now
    (c.in-Some.ensures ∙ ap last_of c.as_slice.ensures)))
