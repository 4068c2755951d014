use Rattle.script_text.proofs.Scripts.ReadFields.{field_at-first, field_at-nowhere}
use Rattle.script_text.proofs.fields.field.Goals as goal

pub returns-in-Some : goal.returns-in-Some
returns-in-Some c = field_at-first c.args.separator c.args.bytes.now c.in-Some.at c.in-Some.ensures.0 c.in-Some.ensures.1

pub returns-in-None : goal.returns-in-None
returns-in-None c = field_at-nowhere c.args.separator c.args.bytes.now c.in-None.ensures
