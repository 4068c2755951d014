use Rattle.std.proofs.Common.{◌∙◌}
use Rattle.java_bind.proofs.Ends.{name_there}
use Rattle.java_bind.proofs.name_parts.last_name.Goals as goal

pub returns-in-Some : goal.returns-in-Some
returns-in-Some c = c.as_str.ensures ∙ name_there c.args.name.now c.in-Some.i.now c.in-Some.ensures
