-- What types lead to by the way of each but the first type to which they lead.
use Rattle.std.specs.Prelude.{◌≡◌, List, ◌∷◌, drop, map}
use Rattle.std.specs.List.{flat_map}
use Rattle.java_tree.specs.declared.occurrence.TypeId.{TypeId}
use Rattle.java_tree.specs.declared.types.JType.{JType}
use Rattle.java_model.specs.Names.Environments.{Env}
use Rattle.java_model.specs.Names.Supertypes.{supers}
use Rattle.java_model.specs.Names.TypeNames.{class_of}
use Rattle.java_supers.specs.Ranking.{HaveRanks}
use Rattle.java_supers.specs.Reaching.{next_in, reached_in, HasAll}

abbrev pub beside_in : List (List TypeId) → TypeId → List TypeId
beside_in nexts t = flat_map (λ o. o ∷ reached_in nexts o) (drop 1 (next_in nexts t))

-- what a table has of each type
pub record AreBeside (nexts table : List (List TypeId)) : Type 0 where
  pub each : (t : TypeId) → next_in table t ≡ beside_in nexts t

-- what is kept of an environment's supertypes
pub record IsHierarchyOf (env : Env) (direct : List (List JType)) (known beside : List (List TypeId)) : Type 0 where
  pub direct_are : HasAll (supers env) env direct
  pub known_are : known ≡ map (flat_map class_of) direct
  pub ranked : HaveRanks known
  pub beside_are : AreBeside known beside
