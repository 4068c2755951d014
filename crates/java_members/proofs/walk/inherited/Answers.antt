use Rattle.std.proofs.Common.{rules}
use Rattle.java_members.proofs.Walking.{one-more-type}
use Rattle.java_members.proofs.walk.inherited.Goals as goal

pub loop-of-preserved : goal.loop-of-preserved
loop-of-preserved g c =
    one-more-type (g.I.Inherits.all c.args.rule.now) c.args.types.now c.loop-of.of-index _ c.loop-of.members c.add_of.new.members (search rules) (search rules) c.loop-of.invariant
    (c.in_ok-add_of.ensures (g.I.Inherits.all c.args.rule.now) c.requires (search rules))
