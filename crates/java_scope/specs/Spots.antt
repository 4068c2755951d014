-- A node with what is in scope at it, as the code holds them.
use Rattle.std.specs.Prelude.{List}
use Rattle.java_tree.specs.declared.bound.Bound.{Bound}
use Rattle.java_model.specs.Tree.Nodes as tree
use Rattle.java_model.specs.Scopes.Scoping.{Spot}
use Rattle.java_nodes.specs.declared.node.Node.{Node}
use Rattle.java_nodes.specs.Seen.{seen}

abbrev pub spot : List Bound → tree.Node → Spot
spot s n = record { scope = s; node = n }

abbrev pub spot_of : List Bound → Node → Spot
spot_of s n = spot s (seen n)
