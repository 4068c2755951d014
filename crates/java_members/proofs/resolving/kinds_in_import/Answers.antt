use Rattle.std.proofs.Common.{◌∙◌}
use Rattle.java_resolve.specs.Kinds.{kinds_in_import_by}
use Rattle.java_members.proofs.Asking.{asked, import-kinds}
use Rattle.java_members.proofs.resolving.kinds_in_import.Goals as goal

pub returns-in-Ok : goal.returns-in-Ok
returns-in-Ok c =
    asked c.args.env.now c.types.result.now c.kinds_in_import.new.asker (λ e a. kinds_in_import_by e a c.args.star c.args.name.now) c.in-Ok.kinds c.types.ensures
    c.in-Ok.ensures.keeps c.in-Ok.ensures.value
    ∙ import-kinds c.args.env.now c.args.star c.args.name.now
