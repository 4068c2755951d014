-- Which types an answer of the look-up with types in hand asked, and when it holds again (JLS 8.1.3, 8.1.4, 8.5, 9.1.2).
use Rattle.std.specs.Prelude.{◌≡◌, ◌≤◌, ℕ, suc, true, false, List, [], ◌∷◌, Contains, Some}
use Rattle.std.specs.List.{flat_map}
use Rattle.java_tree.specs.declared.occurrence.TypeId.{TypeId}
use Rattle.java_model.specs.Names.Lists.{Identifier, is_among}
use Rattle.java_model.specs.Names.Environments.{Env, same_id, Declared, declared_at}
use Rattle.java_model.specs.Names.TypeNames.{Ask, class_of}
use Rattle.java_model.specs.Names.Supertypes.{declared_types, inherited_types, supers_asking, member_of, count, header_ask}

-- a member type by its name in a type
abbrev pub Question : Type 0
Question = TypeId × Identifier

abbrev pub AgreeOn : List Question → Ask → Ask → Type 0
AgreeOn questions ask other = (t : TypeId) (name : Identifier) → Contains questions (t, name) → ask t name ≡ other t name

-- what a type inherits, given the answers about other types
abbrev pub inherited_asking : Env → Ask → Ask
inherited_asking env ask t name = inherited_types env ask t name (flat_map class_of (supers_asking env ask t))

-- The look-up of a member type, with types in hand, ends at an answer within a depth, and tests of no types but those
-- asked whether they are in hand. What a type inherits rests on the answers to some questions alone.
pub data LooksUp (env : Env) (asked : List TypeId) : ℕ → List TypeId → TypeId → Identifier → List TypeId → Type 0 where
  declares : (d : ℕ) (hand : List TypeId) (t : TypeId) (name : Identifier) (u : TypeId) (us : List TypeId)
      → declared_types env t name ≡ u ∷ us → LooksUp env asked d hand t name (u ∷ us)
  is_in_hand : (d : ℕ) (hand : List TypeId) (t : TypeId) (name : Identifier)
      → declared_types env t name ≡ [] → Contains asked t → is_among same_id t hand ≡ true → LooksUp env asked d hand t name []
  inherits : (d : ℕ) (hand : List TypeId) (t : TypeId) (name : Identifier) (found : List TypeId) (questions : List Question) (ask : Ask)
      → declared_types env t name ≡ [] → Contains asked t → is_among same_id t hand ≡ false
      → ((s : TypeId) (n : Identifier) → Contains questions (s, n) → LooksUp env asked d (t ∷ hand) s n (ask s n))
      → ((other : Ask) → AgreeOn questions ask other → inherited_asking env other t name ≡ found)
      → LooksUp env asked (suc d) hand t name found

-- two hands that have the same of these types
abbrev pub SameInHand : List TypeId → List TypeId → List TypeId → Type 0
SameInHand asked hand other = (t : TypeId) → Contains asked t → is_among same_id t other ≡ is_among same_id t hand

abbrev pub IsDisjoint : List TypeId → List TypeId → Type 0
IsDisjoint asked hand = (t : TypeId) → Contains asked t → is_among same_id t hand ≡ false

-- An answer holds for every hand that has the same of the types asked, and within each greater depth.
abbrev pub AnswersHoldAgain : Type 0
AnswersHoldAgain = (env : Env) (asked : List TypeId) (d : ℕ) (hand : List TypeId) (t : TypeId) (name : Identifier) (found : List TypeId)
    → LooksUp env asked d hand t name found
    → (e : ℕ) → d ≤ e → (other : List TypeId) → SameInHand asked hand other
    → member_of e env other t name ≡ found

-- So it holds for every hand that has none of them, where its own has none.
abbrev pub AnswersHoldDisjointly : Type 0
AnswersHoldDisjointly = (env : Env) (asked : List TypeId) (d : ℕ) (hand : List TypeId) (t : TypeId) (name : Identifier) (found : List TypeId)
    → LooksUp env asked d hand t name found → IsDisjoint asked hand
    → (e : ℕ) → d ≤ e → (other : List TypeId) → IsDisjoint asked other
    → member_of e env other t name ≡ found

-- Each look-up in the header of a type has types that it asked.
abbrev pub LookUpsHaveAsked : Type 0
LookUpsHaveAsked = (env : Env) (t : TypeId) (d : Declared) → declared_at env t ≡ Some d → (s : TypeId) (name : Identifier)
    → (asked : List TypeId) × LooksUp env asked (count env) (t ∷ []) s name (header_ask env t s name)
