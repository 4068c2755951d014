use Rattle.std.proofs.Common.{rules}
use Rattle.java_supers.proofs.Reaches.{adds-next}
use Rattle.java_supers.proofs.reaching.add_new.Goals as goal

pub loop-t-preserved : goal.loop-t-preserved
loop-t-preserved c =
    adds-next c.args.marks.now c.loop-t.marks c.add_one.new.marks c.args.types.now c.loop-t.t-index _ c.args.new.now c.loop-t.new c.add_one.new.new (search rules) (search rules) c.loop-t.invariant c.in_ok-add_one.ensures
