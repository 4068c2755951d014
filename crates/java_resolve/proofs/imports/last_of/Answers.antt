use Rattle.std.proofs.Common.{◌∙◌}
use Rattle.java_resolve.proofs.Importing.{last_got}
use Rattle.java_resolve.proofs.imports.last_of.Goals as goal

pub returns : goal.returns
returns c = c.last.ensures.value ∙ last_got c.args.name.now
