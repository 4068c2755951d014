use Rattle.std.proofs.Common.{◌∙◌}
use Rattle.java_resolve.proofs.Importing.{last_got}
use Rattle.java_env.proofs.members.last_of.Goals as goal

pub returns : goal.returns
returns c = c.last.ensures.value ∙ last_got c.args.numbers.now
