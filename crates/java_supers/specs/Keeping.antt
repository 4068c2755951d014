-- Answers about member types where types are in hand, and the hands for which they hold (JLS 8.1.3, 8.5, 9.1.2).
use Rattle.std.specs.Prelude.{◌≡◌, ℕ, suc, Bool, true, false, not, ◌&&◌, List, ◌∷◌, Some, slice_get, unwrap_or}
use Rattle.std.specs.List.{filter, list_all}
use Rattle.java_tree.specs.declared.occurrence.TypeId.{TypeId}
use Rattle.java_model.specs.Names.Lists.{Identifier, is_among}
use Rattle.java_model.specs.Names.Environments.{Env, same_id}
use Rattle.java_model.specs.Names.Supertypes.{count, member_of}
use Rattle.java_model.specs.Names.TypeNames.{Ask}
use Rattle.java_resolve.specs.Occasions.{Occasion}
use Rattle.java_supers.specs.declared.memory.Kept.{Kept}

-- the look-up with types in hand, in more steps than there are types
unfoldable pub member : Env → List TypeId → Ask
member env hand = member_of (suc (count env)) env hand

abbrev pub among : List TypeId → TypeId → Bool
among hand t = is_among same_id t hand

-- whether there is none of the first types, and each of the second
abbrev pub suits : List TypeId → List TypeId → (TypeId → Bool) → Bool
suits free blocked has = list_all (λ t. not (has t)) free && list_all has blocked

-- an answer that holds for each hand that suits it
pub record IsAnswer (env : Env) (t : TypeId) (name : Identifier) (found free blocked : List TypeId) : Type 0 where
  pub holds : (hand : List TypeId) → suits free blocked (among hand) ≡ true → member env hand t name ≡ found

-- what an asker has noted so far
pub record Look : Type 0 where
  pub env : Env
  pub of : TypeId
  pub free : List TypeId
  pub blocked : List TypeId

abbrev pub is_at : Look → Occasion → Type 0
is_at l o = (l.env ≡ o.env) × (l.of ≡ o.of)

-- These are the answers for a hand that suits what was noted, and the type itself.
pub record FitsLook (l : Look) (a : Ask) : Type 0 where
  pub hand : List TypeId
  pub suited : suits l.free l.blocked (among hand) ≡ true
  pub is : a ≡ member l.env (l.of ∷ hand)

-- What passes for all types that there are, passed for those before.
abbrev pub list_grows : List TypeId → List TypeId → Type 0
list_grows before after = (p : TypeId → Bool) → list_all p after ≡ true → list_all p before ≡ true

-- the types that aren't this one
abbrev pub without : TypeId → List TypeId → List TypeId
without of ts = filter (λ t. not (same_id t of)) ts

-- What was noted after something is what was noted before, with these types: the same pass for all of them.
pub record Noted (before after : Look) (free blocked : List TypeId) : Type 0 where
  pub env : after.env ≡ before.env
  pub of : after.of ≡ before.of
  pub free_more : (p : TypeId → Bool) → list_all p after.free ≡ (list_all p before.free && list_all p free)
  pub blocked_more : (p : TypeId → Bool) → list_all p after.blocked ≡ (list_all p before.blocked && list_all p (without before.of blocked))

-- the types that are marked as in hand
abbrev pub has_mark : List Bool → TypeId → Bool
has_mark marks t = unwrap_or (slice_get marks t.0) false

abbrev pub IsKept : Env → Kept → Type 0
IsKept env k = IsAnswer env k.of k.name k.answer.found k.answer.free k.answer.blocked

abbrev pub AreKept : Env → List Kept → Type 0
AreKept env kept = (i : ℕ) (k : Kept) → slice_get kept i ≡ Some k → IsKept env k

-- a kept answer to a question, which suits the types in hand
pub record IsFound (kept : List Kept) (marks : List Bool) (t : TypeId) (name : Identifier) (k : Kept) : Type 0 where
  pub place : ℕ
  pub at : slice_get kept place ≡ Some k
  pub of : k.of ≡ t
  pub named : k.name ≡ name
  pub suited : suits k.answer.free k.answer.blocked (has_mark marks) ≡ true
