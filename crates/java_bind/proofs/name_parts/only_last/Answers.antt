use Rattle.std.proofs.Common.{◌-◌, ◌∙◌, length}
use Rattle.std.proofs.lemmas.List.{take_rest}
use Rattle.java_bind.proofs.Ends.{from_end}
use Rattle.java_bind.proofs.name_parts.only_last.Goals as goal

pub returns-else-is_empty : goal.returns-else-is_empty
returns-else-is_empty c = take_rest c.args.name.now (length c.args.name.now - 1) ∙ from_end c.args.name.now
