use Rattle.std.proofs.Common.{rules}
use Rattle.java_model.specs.Outlines.{fields_in}
use Rattle.java_document.proofs.Lists.{flat_map_next}
use Rattle.java_document.proofs.members.fields.Goals as goal

pub loop-member-preserved : goal.loop-member-preserved
loop-member-preserved c = search (rules, flat_map_next fields_in c.args.members.now c.loop-member.member-index c.member-item.result)
