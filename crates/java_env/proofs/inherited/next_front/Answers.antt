use Rattle.std.proofs.Common.{rules}
use Rattle.java_env.specs.Inheriting.{ways}
use Rattle.java_env.specs.Walks.{has}
use Rattle.java_env.proofs.Walking.{goes-next}
use Rattle.java_env.proofs.inherited.next_front.Goals as goal

pub loop-t-preserved : goal.loop-t-preserved
loop-t-preserved c =
    goes-next (ways c.args.env.now c.args.of) (has c.args.seen.now) (has c.loop-t.seen) (has c.add_next.new.seen) c.args.front.now c.loop-t.t-index _ c.loop-t.new c.add_next.new.new (search rules) (search rules)
    c.loop-t.invariant c.in_ok-add_next.ensures
