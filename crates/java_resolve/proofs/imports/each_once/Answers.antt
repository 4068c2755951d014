use Rattle.std.proofs.Common.{rules}
use Rattle.java_resolve.proofs.Importing.{once_next}
use Rattle.java_resolve.proofs.imports.each_once.Goals as goal

pub loop-t-preserved : goal.loop-t-preserved
loop-t-preserved c =
    once_next c.args.types.now c.loop-t.t-index _ c.loop-t.once c.add_once.new.types _ (search rules) (search rules) c.loop-t.invariant c.in_ok-add_once.ensures
