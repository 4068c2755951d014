use Rattle.std.proofs.Common.{rules}
use Rattle.java_nodes.proofs.Tops.{holes_step}
use Rattle.java_nodes.proofs.tree.top_holes.Goals as goal

pub loop-declaration-preserved : goal.loop-declaration-preserved
loop-declaration-preserved c =
    holes_step c.args.declarations.now c.loop-declaration.declaration-index _ c.loop-declaration.holes.items c.push_hole.new.holes.items
    (search rules) c.loop-declaration.invariant c.in_ok-push_hole.ensures
