use Rattle.std.proofs.Common.{rules}
use Rattle.java_supers.proofs.Reaches.{one-less-marked}
use Rattle.java_supers.proofs.reaching.unmark.Goals as goal

pub loop-t-preserved : goal.loop-t-preserved
loop-t-preserved c = one-less-marked c.loop-t.marks c.set_mark.new.marks c.args.types.now c.loop-t.t-index _ (search rules) (search rules) c.set_mark.ensures c.loop-t.invariant
