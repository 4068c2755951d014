use Rattle.std.proofs.Common.{◌∙◌}
use Rattle.java_bind.proofs.Ends.{last_there}
use Rattle.java_bind.proofs.name_parts.last_of.Goals as goal

pub returns : goal.returns
returns c = c.last.ensures.value ∙ last_there c.args.name.now
