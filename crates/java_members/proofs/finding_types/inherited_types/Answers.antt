use Rattle.java_members.proofs.TypesHad.{has-inherited}
use Rattle.java_members.proofs.finding_types.inherited_types.Goals as goal

pub returns : goal.returns
returns c =
    has-inherited c.args.env.now c.args.name.now c.args.t c.args.inherited.now c.in_ok-kept.kept c.supertypes_have_no_cycle.ensures c.sub_is_transitive.ensures c.requires.none
    c.requires.inherited c.in_ok-kept.ensures
