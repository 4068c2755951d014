-- Ranks of types: what a type leads to has lower ones.
use Rattle.std.specs.Prelude.{◌≡◌, ◌<◌, ℕ, suc, Bool, true, false, List, Option, Some, is_some, length, slice_get, nat_lt}
use Rattle.std.specs.List.{list_all}
use Rattle.std.specs.Option.{option_map_or}
use Rattle.java_tree.specs.declared.occurrence.TypeId.{TypeId}
use Rattle.java_supers.specs.Reaching.{next_in}

-- Whether a type has a rank below another. A type past the table leads to none, and is below all.
abbrev pub is_below : List (Option ℕ) → ℕ → TypeId → Bool
is_below ranks r t = option_map_or (λ own. option_map_or (λ k. nat_lt k r) own false) (slice_get ranks t.0) true

-- whether a type has a rank, or is past the table
abbrev pub is_ranked : List (Option ℕ) → TypeId → Bool
is_ranked ranks t = option_map_or is_some (slice_get ranks t.0) true

-- Each type that has a rank leads to types with lower ones alone.
pub record AreRanks (nexts : List (List TypeId)) (ranks : List (Option ℕ)) : Type 0 where
  pub many_are : length ranks ≡ length nexts
  pub few : (t : TypeId) (r : ℕ) → slice_get ranks t.0 ≡ Some (Some r) → r < length nexts
  pub above : (t : TypeId) (r : ℕ) → slice_get ranks t.0 ≡ Some (Some r) → list_all (is_below ranks r) (next_in nexts t) ≡ true

-- All types have ranks, so none leads back to itself.
pub record HaveRanks (nexts : List (List TypeId)) : Type 0 where
  pub ranks : List (Option ℕ)
  pub are : AreRanks nexts ranks
  pub all : list_all is_some ranks ≡ true
