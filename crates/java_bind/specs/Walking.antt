-- What a walk through a node has done.
use Rattle.std.specs.Prelude.{◌≡◌, List, ◌++◌}
use Rattle.java_tree.specs.declared.occurrence.Occurrence.{Occurrence}
use Rattle.java_model.specs.Scopes.Contexts.{Context}
use Rattle.java_model.specs.Scopes.Scoping.{Spot, inside}
use Rattle.java_model.specs.Bindings.Chains.{Types}
use Rattle.java_model.specs.Bindings.Values.{node_types}
use Rattle.java_model.specs.Occurrences.Occurrences.{java_rules, node_names}
use Rattle.java_model.proofs.Walks.{Walked}

-- all parts were gone through, and then what the node itself names was found
pub record IsWalked (C : Context) (x : Spot) (before after : List Occurrence) (ts : Types) : Type 0 where
  pub parts : List Types
  pub below : List Occurrence
  pub walked : Walked (java_rules C) (inside C x) parts below
  pub types : ts ≡ node_types C x.scope x.node parts
  pub found : after ≡ before ++ (below ++ node_names C x.scope x.node parts)
