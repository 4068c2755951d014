use Rattle.std.proofs.Common.{◌≡◌, take}
use Rattle.java_nodes.specs.Holes.{top_holes}
use Rattle.java_nodes.proofs.tree.top_holes.Given as goal

-- the offsets so far
abbrev pub invariant-loop-declaration : goal.invariant-loop-declaration
invariant-loop-declaration l = l.holes.items ≡ top_holes (take l.declaration-index l.declarations)
