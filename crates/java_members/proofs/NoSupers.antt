-- Only types of the environment have supertypes.
use Rattle.std.proofs.Common.{◌≡◌, ℕ, zero, suc, Bool, true, false, cond, List, [], ◌∷◌, ◌++◌, Option, Some, None, is_some, flat_map, refl, sym, ap, ◌∙◌, true≢false}
use Rattle.std.specs.Option.{option_map_or}
use Rattle.java_tree.specs.declared.occurrence.TypeId.{TypeId}
use Rattle.java_tree.specs.declared.types.JType.{JType}
use Rattle.java_tree.specs.declared.types.JType.TheVariants as types
use Rattle.java_model.specs.Names.Lists.{fresh, is_among, reached}
use Rattle.java_model.specs.Names.Environments.{Env, Declared, declared_at, same_id}
use Rattle.java_model.specs.Names.Supertypes.{count, header_ask, header_supers, is_on_cycle, known_supers, supers, supers_of}
use Rattle.java_model.specs.Names.TypeNames.{class_of}
use Rattle.java_types.specs.Entries.{is_declared}

no-header : (env : Env) (t : TypeId) → declared_at env t ≡ None → header_supers env t ≡ []
no-header env t e = ap (λ o. option_map_or (supers_of env (header_ask env t)) o []) e

pub known-none : (env : Env) (t : TypeId) → declared_at env t ≡ None → known_supers env t ≡ []
known-none env t e = by (is_on_cycle env t) (header_supers env t) (no-header env t e)
  where
    by : (b : Bool) (hs : List JType) → hs ≡ [] → flat_map class_of (cond b (types.Absent [] ∷ []) hs) ≡ []
    by true hs h = refl
    by false hs h = ap (flat_map class_of) h

empty-front : (n : ℕ) (next : TypeId → List TypeId) → reached n same_id next [] [] ≡ []
empty-front zero next = refl
empty-front (suc n) next = refl

off-cycle : (env : Env) (t : TypeId) → header_supers env t ≡ [] → is_on_cycle env t ≡ false
off-cycle env t e =
    ap (λ ts. is_among same_id t (reached (count env) same_id (λ s. flat_map class_of (header_supers env s)) (fresh same_id [] (flat_map class_of ts ++ []))
    ([] ++ fresh same_id [] (flat_map class_of ts ++ [])))) e
    ∙ ap (is_among same_id t) (empty-front (count env) (λ s. flat_map class_of (header_supers env s)))

undeclared : (env : Env) (t : TypeId) → is_declared env t ≡ false → declared_at env t ≡ None
undeclared env t h = by (declared_at env t) refl h
  where
    by : (o : Option Declared) → declared_at env t ≡ o → is_some o ≡ false → declared_at env t ≡ None
    by None e k = e
    by (Some d) e k = absurd (true≢false k)

pub none_undeclared : (env : Env) (t : TypeId) → is_declared env t ≡ false → [] ≡ supers env t
none_undeclared env t h =
    let none = no-header env t (undeclared env t h) in
    sym (ap (λ b. cond b (types.Absent [] ∷ []) (header_supers env t)) (off-cycle env t none) ∙ none)
