use Rattle.java_bind.proofs.Ends.{before_end}
use Rattle.java_bind.proofs.name_parts.all_but_last.Goals as goal

pub returns-else-is_empty : goal.returns-else-is_empty
returns-else-is_empty c = before_end c.args.name.now
