-- Where a path of child numbers leads in a unit's tree.
use Rattle.std.specs.Prelude.{ℕ, List, [], Option, Some}
use Rattle.java_tree.specs.declared.unit.TypeDecl.{TypeDecl}
use Rattle.java_tree.specs.declared.unit.Unit.{Unit as CompilationUnit}
use Rattle.java_model.specs.Places.{Rules, lead}
use Rattle.java_model.specs.Tree.Nodes.{Node, unit}
use Rattle.java_model.specs.Tree.Children.{children}

-- nodes within nodes, worth nothing and naming nothing
abbrev pub node_rules : List TypeDecl → Rules Node (Unit {0}) (Unit {0})
node_rules types = record { inside = children types; value = λ x vs. tt; names = λ x vs. [] }

-- the node at a place of a unit
abbrev pub node_at : CompilationUnit → List ℕ → Option Node
node_at u = lead (node_rules u.types) (Some (unit u))
