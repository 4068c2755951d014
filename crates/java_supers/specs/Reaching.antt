-- What a table of lists leads to from a type, and the supertypes of all types.
use Rattle.std.specs.Prelude.{◌≡◌, ◌<◌, ℕ, suc, Bool, List, [], ◌∷◌, ◌++◌, Some, length, slice_get, unwrap_or}
use Rattle.java_tree.specs.declared.occurrence.TypeId.{TypeId}
use Rattle.java_model.specs.Names.Lists.{is_among, fresh, reached}
use Rattle.java_model.specs.Names.Environments.{Env, same_id, type_id}
use Rattle.java_model.specs.Names.Supertypes.{count}
use Rattle.java_supers.specs.Keeping.{has_mark}

-- the list of a type, none past the table
abbrev pub next_in : List (List TypeId) → TypeId → List TypeId
next_in nexts t = unwrap_or (slice_get nexts t.0) []

abbrev pub reached_in : List (List TypeId) → TypeId → List TypeId
reached_in nexts t = reached (suc (length nexts)) same_id (next_in nexts) (t ∷ []) []

-- Exactly these types are marked.
abbrev pub AreMarked : List Bool → List TypeId → Type 0
AreMarked marks ts = (u : TypeId) → is_among same_id u ts ≡ has_mark marks u

-- Types are added that weren't marked, each once, and marked.
pub record Adds (marks marked : List Bool) (types before after : List TypeId) : Type 0 where
  pub added : (seen : List TypeId) → AreMarked marks (seen ++ before) → after ≡ before ++ fresh same_id (seen ++ before) types
  pub are_marked : (seen : List TypeId) → AreMarked marks (seen ++ before) → AreMarked marked (seen ++ after)

-- What a table has of the first types.
pub record HasFirst {X : Type 0} (of : TypeId → X) (many : ℕ) (table : List X) : Type 0 where
  pub many_are : length table ≡ many
  pub each : (n : ℕ) → n < many → slice_get table n ≡ Some (of (type_id n))

-- What it has of all types of an environment.
abbrev pub HasAll : {X : Type 0} → (TypeId → X) → Env → List X → Type 0
HasAll of env table = HasFirst of (count env) table
