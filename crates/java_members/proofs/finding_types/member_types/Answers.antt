use Rattle.std.proofs.Common.{map, ap, ◌∙◌}
use Rattle.java_members.specs.Inheriting.{type_of}
use Rattle.java_members.proofs.InOrder.{all-types}
use Rattle.java_members.proofs.finding_types.member_types.Goals as goal

pub returns : goal.returns
returns c =
    all-types c.args.env.now c.args.t c.args.name.now c.in_ok-members.members c.in_ok-types.types c.in_ok-members.ensures.rising c.in_ok-members.ensures.same
    (c.in_ok-types.ensures ∙ ap (map type_of) c.as_slice.ensures)
