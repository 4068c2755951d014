-- The member types that a type has, as members.
use Rattle.std.proofs.Common.{◌≡◌, ◌||◌, Bool, true, false, cond, List, [], ◌∷◌, filter, flat_map, map, inl, inr, refl, sym, ap, ◌∙◌, subst, true≢false}
use Rattle.std.specs.List.{list_any}
use Rattle.std.proofs.lemmas.Bool.{eqb-true, or_cases}
use Rattle.java_tree.specs.declared.occurrence.TypeId.{TypeId}
use Rattle.java_model.specs.Names.Environments.{Env, same_id, type_id}
use Rattle.java_model.specs.Names.Laws.{SubIsTransitive, SupertypesHaveNoCycle}
use Rattle.java_model.specs.Names.Lists.{Identifier, fresh, is_among, or_else}
use Rattle.java_model.specs.Names.MemberTypes.{member_types_by}
use Rattle.java_model.specs.Names.Supertypes.{count, declared_types, inherits_type, known_supers}
use Rattle.java_members.specs.Inheriting.{of_type, type_of, types_had}
use Rattle.java_members.specs.Members.{Same, same_member}
use Rattle.java_members.specs.declared.member.Member.{Member}
use Rattle.java_members.proofs.FieldsHad.{or-nothing}
use Rattle.java_members.proofs.Members.{same-both, same-filter, same-if}
use Rattle.java_members.proofs.Ordered.{map-filter, map-flat}
use Rattle.java_members.proofs.Steady.{Step, flat-same, settled}
use Rattle.java_members.proofs.NoSupers.{known-none}

has-step : Env → Identifier → (TypeId → List TypeId) → TypeId → List TypeId
has-step env name f t = or_else (declared_types env t name) (λ _. fresh same_id [] (filter (inherits_type env t) (flat_map f (known_supers env t))))

type-steps : (env : Env) (name : Identifier) → Step env (λ d t. member_types_by d env t name) (has-step env name)
unfolding has-step
type-steps env name = record {
  next = λ d t. refl;
  asks = λ f g t h. ap (λ ts. or_else (declared_types env t name) (λ _. fresh same_id [] (filter (inherits_type env t) ts))) (flat-same f g (known_supers env t) h);
  starts = λ f t e.
      ap (λ ts. or_else (declared_types env t name) (λ _. fresh same_id [] (filter (inherits_type env t) (flat_map f ts)))) (known-none env t e)
      ∙ or-nothing (declared_types env t name);
}

has : (env : Env) (name : Identifier) (t : TypeId) → SupertypesHaveNoCycle → SubIsTransitive
    → member_types_by (count env) env t name ≡ has-step env name (λ s. member_types_by (count env) env s name) t
has env name t acyclic transitive = settled env (λ d t. member_types_by d env t name) (has-step env name) (type-steps env name) acyclic transitive t

-- ---- each once, the same members

or-first : (a b : Bool) → a ≡ true → (a || b) ≡ true
or-first a b h = ap (λ c. c || b) h

or-second : (a b : Bool) → b ≡ true → (a || b) ≡ true
or-second true b h = refl
or-second false b h = h

or-false : (a : Bool) → (a || false) ≡ a
or-false true = refl
or-false false = refl

or-swap : (e x s : Bool) → ((e || x) || s) ≡ (x || (e || s))
or-swap true true s = refl
or-swap true false s = refl
or-swap false x s = refl

or-gone : (e x s : Bool) → (e ≡ true → s ≡ true) → (x || s) ≡ ((e || x) || s)
or-gone true x s h = or-second x s (h refl)
or-gone false x s h = refl

among-types : (m : Member) (t : TypeId) (seen : List TypeId) → is_among same_id t seen ≡ true → same_member m (of_type t) ≡ true → is_among same_member m (map of_type seen) ≡ true
among-types m t [] h e = absurd (true≢false (sym h))
among-types m t (s ∷ seen) h e = elim (or_cases (same_id t s) (list_any (same_id t) seen) h) [
  | inl k ↦ or-first (same_member m (of_type s)) (is_among same_member m (map of_type seen)) (subst (λ u. same_member m (of_type u) ≡ true) (ap type_id (eqb-true t.0 s.0 k)) e)
  | inr k ↦ or-second (same_member m (of_type s)) (is_among same_member m (map of_type seen)) (among-types m t seen k e)
]

once : (m : Member) (ts seen : List TypeId)
    → (is_among same_member m (map of_type (fresh same_id seen ts)) || is_among same_member m (map of_type seen)) ≡ (is_among same_member m (map of_type ts) || is_among same_member m (map of_type seen))
once m [] seen = refl
once m (t ∷ ts) seen = by (is_among same_id t seen) refl (once m ts seen) (once m ts (t ∷ seen))
  where
    by : (b : Bool) → is_among same_id t seen ≡ b
        → (is_among same_member m (map of_type (fresh same_id seen ts)) || is_among same_member m (map of_type seen)) ≡ (is_among same_member m (map of_type ts) || is_among same_member m (map of_type seen))
        → (is_among same_member m (map of_type (fresh same_id (t ∷ seen) ts)) || (same_member m (of_type t) || is_among same_member m (map of_type seen)))
        ≡ (is_among same_member m (map of_type ts) || (same_member m (of_type t) || is_among same_member m (map of_type seen)))
        → (is_among same_member m (map of_type (cond b (fresh same_id seen ts) (t ∷ fresh same_id (t ∷ seen) ts))) || is_among same_member m (map of_type seen))
        ≡ ((same_member m (of_type t) || is_among same_member m (map of_type ts)) || is_among same_member m (map of_type seen))
    by true h one two =
        one ∙ or-gone (same_member m (of_type t)) (is_among same_member m (map of_type ts)) (is_among same_member m (map of_type seen)) (among-types m t seen h)
    by false h one two =
        or-swap (same_member m (of_type t)) (is_among same_member m (map of_type (fresh same_id (t ∷ seen) ts))) (is_among same_member m (map of_type seen)) ∙ two
        ∙ sym (or-swap (same_member m (of_type t)) (is_among same_member m (map of_type ts)) (is_among same_member m (map of_type seen)))

same-once : (ts : List TypeId) → Same (map of_type ts) (map of_type (fresh same_id [] ts))
same-once ts = record {
  each = λ m. sym (or-false (is_among same_member m (map of_type ts))) ∙ sym (once m ts []) ∙ or-false (is_among same_member m (map of_type (fresh same_id [] ts)));
}

pub has-own : (env : Env) (name : Identifier) (t own : TypeId) (ms : List Member) → SupertypesHaveNoCycle → SubIsTransitive → own ∷ [] ≡ declared_types env t name → ms ≡ of_type own ∷ []
    → Same ms (types_had env name t)
unfolding types_had has-step
has-own env name t own ms acyclic transitive at is =
    same-if ms (types_had env name t)
    (is ∙ ap (map of_type)
    (sym (has env name t acyclic transitive
    ∙ ap (λ ts. or_else ts (λ _. fresh same_id [] (filter (inherits_type env t) (flat_map (λ s. member_types_by (count env) env s name) (known_supers env t))))) (sym at))))

pub has-inherited : (env : Env) (name : Identifier) (t : TypeId) (inherited ms : List Member) → SupertypesHaveNoCycle → SubIsTransitive → declared_types env t name ≡ []
    → Same inherited (flat_map (types_had env name) (known_supers env t)) → ms ≡ filter (λ m. inherits_type env t (type_of m)) inherited → Same ms (types_had env name t)
unfolding types_had has-step
has-inherited env name t inherited ms acyclic transitive none s is =
    let q : Member → Bool = λ m. inherits_type env t (type_of m) in
    let supers : List TypeId = known_supers env t in
    let all : List TypeId = flat_map (λ u. member_types_by (count env) env u name) supers in
    let found : List TypeId = filter (inherits_type env t) all in
    let so : filter q (flat_map (types_had env name) supers) ≡ map of_type found =
    ap (filter q) (sym (map-flat of_type (λ u. member_types_by (count env) env u name) supers)) ∙ sym (map-filter of_type (inherits_type env t) q (λ u. refl) all) in
    let had : map of_type (fresh same_id [] found) ≡ types_had env name t =
    ap (map of_type) (sym (has env name t acyclic transitive ∙ ap (λ ts. or_else ts (λ _. fresh same_id [] found)) none)) in
    same-both ms (filter q inherited) (types_had env name t) (same-if ms (filter q inherited) is)
    (same-both (filter q inherited) (filter q (flat_map (types_had env name) supers)) (types_had env name t) (same-filter q inherited (flat_map (types_had env name) supers) s)
    (same-both (filter q (flat_map (types_had env name) supers)) (map of_type found) (types_had env name t) (same-if (filter q (flat_map (types_had env name) supers)) (map of_type found) so)
    (same-both (map of_type found) (map of_type (fresh same_id [] found)) (types_had env name t) (same-once found) (same-if (map of_type (fresh same_id [] found)) (types_had env name t) had))))
