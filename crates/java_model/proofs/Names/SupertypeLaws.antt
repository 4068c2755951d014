-- Laws of supertypes.
use Rattle.std.proofs.Common.{◌≡◌, ◌<◌, ℕ, zero, suc, Bool, true, false, cond, List, [], ◌∷◌, length, Contains, flat_map, Option, Some, None, ◌⊎◌, inl, inr, refl, ap, arith}
use Rattle.std.specs.Option.{option_map_or}
use Rattle.std.proofs.lemmas.Bool.{cases_order, both_ways, eqb-true, eq-eqb}
use Rattle.std.proofs.lemmas.Option.{slice_get_within}
use Rattle.java_tree.specs.declared.occurrence.TypeId.{TypeId}
use Rattle.java_tree.specs.declared.types.JType.{JType}
use Rattle.java_tree.specs.declared.types.JType.TheVariants as types
use Rattle.java_model.specs.Names.Environments.{Env, Declared, declared, declared_at, type_id, same_id}
use Rattle.java_model.specs.Names.TypeNames.{class_of}
use Rattle.java_model.specs.Names.Supertypes.{Sub, direct, further, count, supers_of, header_ask, header_supers, leads_to, is_on_cycle, known_supers}
use Rattle.java_model.specs.Names.Laws.{SubIsTransitive, SupertypesHaveNoCycle}
use Rattle.java_model.proofs.Names.Membership.{Among, among, test-from_among}
use Rattle.java_model.proofs.Names.Reaching.{reached_is_closed}

pub sub_is_transitive : SubIsTransitive
sub_is_transitive env s t u (direct _ _ c) b = further s t u c b
sub_is_transitive env s t u (further _ v _ c a) b = further s v u c (sub_is_transitive env v t u a b)

-- type ids
pub same_id-sound : (s t : TypeId) → same_id s t ≡ true → s ≡ t
same_id-sound s t e = ap type_id (eqb-true s.0 t.0 e)

pub same_id-alike : (t : TypeId) → same_id t t ≡ true
same_id-alike t = eq-eqb t.0 t.0 refl

-- all ids below a number
below : ℕ → List TypeId
below zero = []
below (suc n) = type_id n ∷ below n

below-length : (n : ℕ) → length (below n) ≡ n
unfolding below
below-length zero = refl
below-length (suc n) = let h = below-length n in omega (arith, h)

among-below : (n : ℕ) (t : TypeId) → t.0 < n → Among (below n) t
unfolding below
among-below zero t l = absurd (omega (arith, l))
among-below (suc n) t l = elim (cases_order n t.0) [
  | inl e ↦ inl (ap type_id e)
  | inr o ↦ elim o [
    | inl k ↦ absurd (omega (arith, l, k))
    | inr k ↦ inr (among-below n t k)
  ]
]

-- only declared types have supertypes
next_in_header : Env → TypeId → List TypeId
next_in_header env s = flat_map class_of (header_supers env s)

live_by : (env : Env) (f : Declared → List JType) (s u : TypeId) (o : Option Declared) → declared_at env s ≡ o
    → Among (flat_map class_of (option_map_or f o [])) u → s.0 < count env
live_by env f s u None e a = absurd a
live_by env f s u (Some d) e a = slice_get_within (declared env) s.0 d e

live : (env : Env) (s u : TypeId) → Among (next_in_header env s) u → Among (below (count env)) s
unfolding next_in_header
live env s u a = among-below (count env) s (live_by env (supers_of env (header_ask env s)) s u (declared_at env s) refl a)

-- a known supertype is one of the header of a type that is on no cycle
known_by : (b : Bool) (hs : List JType) (u : TypeId) → Among (flat_map class_of (cond b (types.Absent [] ∷ []) hs)) u
    → (b ≡ false) × Among (flat_map class_of hs) u
known_by true hs u a = absurd a
known_by false hs u a = (refl, a)

known : (env : Env) (s u : TypeId) → Contains (known_supers env s) u → (is_on_cycle env s ≡ false) × Among (next_in_header env s) u
unfolding next_in_header
known env s u c = known_by (is_on_cycle env s) (header_supers env s) u (among (known_supers env s) u c)

-- a list that is closed under the supertypes of headers has each type to which a chain leads
abbrev Closed : Env → TypeId → List TypeId → Type 0
Closed env start seen = (s : TypeId) → (s ≡ start) ⊎ Among seen s → (u : TypeId) → Among (next_in_header env s) u → Among seen u

follow : (env : Env) (start : TypeId) (seen : List TypeId) → Closed env start seen
    → (s u : TypeId) → Sub env s u → (s ≡ start) ⊎ Among seen s → Among seen u
follow env start seen closed s u (direct _ _ c) f = closed s f u (known env s u c).1
follow env start seen closed s u (further _ v _ c a) f = follow env start seen closed v u a (inr (closed s f v (known env s v c).1))

first_step : (env : Env) (s u : TypeId) → Sub env s u → is_on_cycle env s ≡ false
first_step env s u (direct _ _ c) = (known env s u c).0
first_step env s u (further _ v _ c a) = (known env s v c).0

closed : (env : Env) (t : TypeId) → Closed env t (leads_to env (next_in_header env) t)
closed env t = reached_is_closed same_id same_id-sound same_id-alike (next_in_header env) (below (count env)) (live env) t
    (suc (count env)) (let l = below-length (count env) in omega (arith, l))

pub supertypes_have_no_cycle : SupertypesHaveNoCycle
unfolding next_in_header
supertypes_have_no_cycle env t s =
    let led = leads_to env (next_in_header env) t in
    both_ways (is_on_cycle env t) (first_step env t t s)
    (test-from_among same_id same_id-alike t led (follow env t led (closed env t) t t s (inl refl)))
