-- Walks from type to type.
use Rattle.std.specs.Prelude.{◌≡◌, ℕ, zero, suc, ◌≤◌, ◌⊎◌, Bool, true, false, ◌||◌, List}
use Rattle.std.specs.BTreeSet.{BTreeSet, contains}
use Rattle.std.specs.List.{list_any}
use Rattle.std.specs.Ordering.{nat_cmp}
use Rattle.java_tree.specs.declared.occurrence.TypeId.{TypeId}
use Rattle.java_model.specs.Names.Environments.{same_id}
use Rattle.java_model.specs.Names.Lists.{is_among}

-- what is next to a type
abbrev pub Next : Type 0
Next = TypeId → List TypeId

-- whether a walk of at most so many steps comes to a type that passes a test
abbrev pub finds : Next → (TypeId → Bool) → ℕ → TypeId → Bool
finds next test zero t = test t
finds next test (suc d) t = test t || list_any (finds next test d) (next t)

-- a walk of so many steps
pub data Walk (next : Next) : ℕ → TypeId → TypeId → Type 0 where
  here : (t : TypeId) → Walk next 0 t t
  on : (n : ℕ) (s t u : TypeId) → is_among same_id t (next s) ≡ true → Walk next n t u → Walk next (suc n) s u

-- Exactly the types that a walk of at most so many steps comes to are seen.
pub record IsReached (next : Next) (many : ℕ) (t : TypeId) (seen : TypeId → Bool) : Type 0 where
  pub sound : (u : TypeId) → seen u ≡ true → (n : ℕ) × (n ≤ many) × Walk next n t u
  pub complete : (n : ℕ) (u : TypeId) → n ≤ many → Walk next n t u → seen u ≡ true

-- These types are seen after so many steps, of which those at the front were reached last.
pub record IsReaching (next : Next) (step : ℕ) (t : TypeId) (front : List TypeId) (seen : TypeId → Bool) : Type 0 where
  pub reached : IsReached next step t seen
  pub fronts : (u : TypeId) → is_among same_id u front ≡ true → seen u ≡ true
  pub closed : (v s : TypeId) → seen v ≡ true → is_among same_id v front ≡ false → is_among same_id s (next v) ≡ true → seen s ≡ true

-- Those next to the types of a front are seen, and those that weren't seen are the new ones.
pub record Goes (next : Next) (front : List TypeId) (seen : TypeId → Bool) (new : List TypeId) (after : TypeId → Bool) : Type 0 where
  pub grows : (u : TypeId) → seen u ≡ true → after u ≡ true
  pub added : (u : TypeId) → after u ≡ true → (seen u ≡ true) ⊎ (is_among same_id u new ≡ true)
  pub new_seen : (u : TypeId) → is_among same_id u new ≡ true → after u ≡ true
  pub from : (u : TypeId) → is_among same_id u new ≡ true → (w : TypeId) × (is_among same_id w front ≡ true) × (is_among same_id u (next w) ≡ true)
  pub covers : (w u : TypeId) → is_among same_id w front ≡ true → is_among same_id u (next w) ≡ true → after u ≡ true

-- These types are seen, and those that weren't seen before are added to the new ones.
pub record Adds (seen : TypeId → Bool) (new types : List TypeId) (after : TypeId → Bool) (news : List TypeId) : Type 0 where
  pub grows : (u : TypeId) → seen u ≡ true → after u ≡ true
  pub added : (u : TypeId) → after u ≡ true → (seen u ≡ true) ⊎ (is_among same_id u news ≡ true)
  pub kept : (u : TypeId) → is_among same_id u new ≡ true → is_among same_id u news ≡ true
  pub from : (u : TypeId) → is_among same_id u news ≡ true → (is_among same_id u new ≡ true) ⊎ ((is_among same_id u types ≡ true) × (after u ≡ true))
  pub covers : (u : TypeId) → is_among same_id u types ≡ true → after u ≡ true

-- the types of which a set has the numbers
abbrev pub has : BTreeSet ℕ → TypeId → Bool
has numbers t = contains nat_cmp numbers t.0
