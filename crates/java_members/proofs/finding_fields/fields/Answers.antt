use Rattle.std.proofs.Common.{map, ap, ◌∙◌}
use Rattle.java_members.specs.Inheriting.{field_of}
use Rattle.java_members.proofs.InOrder.{all-fields}
use Rattle.java_members.proofs.finding_fields.fields.Goals as goal

pub returns : goal.returns
returns c =
    all-fields c.args.env.now c.args.t c.args.name.now c.in_ok-members.members c.in_ok-fields.fields c.in_ok-members.ensures.rising c.in_ok-members.ensures.same
    (c.in_ok-fields.ensures ∙ ap (map field_of) c.as_slice.ensures)
