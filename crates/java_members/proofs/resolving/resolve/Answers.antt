use Rattle.java_model.specs.Names.TypeNames.{resolve_by}
use Rattle.java_resolve.specs.Resolving.{scope_of}
use Rattle.java_members.proofs.Asking.{asked}
use Rattle.java_members.proofs.resolving.resolve.Goals as goal

pub returns-in-Ok : goal.returns-in-Ok
returns-in-Ok c =
    asked c.args.env.now c.types.result.now c.resolve.new.asker (λ e a. resolve_by e a (scope_of c.args.outline.now c.args.bounds.now) c.args.name.now) c.in-Ok.of c.types.ensures
    c.in-Ok.ensures.keeps c.in-Ok.ensures.value
