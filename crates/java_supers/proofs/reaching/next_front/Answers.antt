use Rattle.std.proofs.Common.{rules, []}
use Rattle.java_supers.proofs.Reaches.{adds-front}
use Rattle.java_supers.proofs.reaching.next_front.Goals as goal

pub loop-t-preserved : goal.loop-t-preserved
loop-t-preserved c =
    adds-front c.args.nexts.now c.args.marks.now c.loop-t.marks c.add_new.new.marks c.args.front.now c.next_in.result.now c.loop-t.t-index _ [] c.loop-t.new c.add_new.new.new (search rules) (search rules) c.next_in.ensures
    c.loop-t.invariant c.in_ok-add_new.ensures
