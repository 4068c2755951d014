use Rattle.java_model.specs.Names.TypeNames.{import_type}
use Rattle.java_members.proofs.Asking.{asked}
use Rattle.java_members.proofs.resolving.import_type.Goals as goal

pub returns-in-Ok : goal.returns-in-Ok
returns-in-Ok c =
    asked c.args.env.now c.types.result.now c.import_type.new.asker (λ e a. import_type e a c.args.name.now) c.in-Ok.of c.types.ensures
    c.in-Ok.ensures.keeps c.in-Ok.ensures.value
