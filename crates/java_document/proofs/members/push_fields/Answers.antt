use Rattle.std.proofs.Common.{rules, append_assoc}
use Rattle.java_model.specs.Outlines.{field_of}
use Rattle.java_document.proofs.Lists.{map_next}
use Rattle.java_document.proofs.members.push_fields.Goals as goal

pub loop-variable-preserved : goal.loop-variable-preserved
loop-variable-preserved c =
    search (rules, append_assoc, map_next (field_of c.args.declared.now) c.args.declared.now.variables c.loop-variable.variable-index c.variable-item.result)
