-- How the nodes of a unit stand to its spots.
use Rattle.std.specs.Prelude.{◌≡◌, ℕ, List}
use Rattle.std.specs.Option.{option_map}
use Rattle.java_tree.specs.declared.unit.Unit.{Unit as CompilationUnit}
use Rattle.java_model.specs.Scopes.Contexts.{Context}
use Rattle.java_model.specs.Occurrences.Occurrences.{spot_at}
use Rattle.java_nodes.specs.Leading.{node_at}

-- The spot at each place of a unit is that of the node there, and there is none where there is no node.
abbrev pub SpotsAreNodes : Type 0
SpotsAreNodes = (C : Context) (u : CompilationUnit) (place : List ℕ) → C.types ≡ u.types → option_map (λ s. s.node) (spot_at C u place) ≡ node_at u place
