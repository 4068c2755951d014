-- The fields that a type has, as members.
use Rattle.std.proofs.Common.{◌≡◌, ◌+◌, ℕ, zero, suc, Bool, true, false, cond, List, [], ◌∷◌, Option, Some, None, drop, filter, flat_map, map, slice_get, refl, sym, ap, ◌∙◌, arith}
use Rattle.std.specs.Option.{option_and_then, option_map_or}
use Rattle.std.specs.Str.{bytes_eq}
use Rattle.java_tree.specs.declared.occurrence.FieldId.{FieldId}
use Rattle.java_tree.specs.declared.occurrence.TypeId.{TypeId}
use Rattle.java_tree.specs.declared.outline.OutlineField.{OutlineField}
use Rattle.java_model.specs.Names.Environments.{Env, Declared, declared_at, id_of}
use Rattle.java_model.specs.Names.Fields.{declared_fields, field_at, fields_by, fields_from, fields_in, inherits_field, is_field_named}
use Rattle.java_model.specs.Names.Laws.{SubIsTransitive, SupertypesHaveNoCycle}
use Rattle.java_model.specs.Names.Lists.{Identifier, or_else}
use Rattle.java_model.specs.Names.Supertypes.{count, known_supers}
use Rattle.java_types.specs.Entries.{has_no_document}
use Rattle.java_types.proofs.Homes.{IsUndeclared, is_object, is_string, undocumented}
use Rattle.java_types.proofs.Numbers.{own_id}
use Rattle.java_members.specs.FieldsCalled.{fields_called}
use Rattle.java_members.specs.Inheriting.{field_of, fields_had, of_field}
use Rattle.java_members.specs.Members.{Same}
use Rattle.java_members.specs.declared.member.Member.{Member}
use Rattle.java_members.proofs.Members.{same-both, same-filter, same-if}
use Rattle.java_members.proofs.Ordered.{map-filter, map-flat}
use Rattle.java_members.proofs.Steady.{Step, flat-same, settled}
use Rattle.java_members.proofs.NoSupers.{known-none}

-- ---- those that a type declares

no-fields : (d : Declared) → IsUndeclared d → d.type.fields ≡ []
no-fields d (is_object n s) = ap (λ (x : Declared). x.type.fields) s
no-fields d (is_string n s) = ap (λ (x : Declared). x.type.fields) s

fields-without : (env : Env) (t : TypeId) → has_no_document env t → (d : Declared) → declared_at env t ≡ Some d → d.type.fields ≡ []
fields-without env t none d at = no-fields d (undocumented env t d at (sym (ap (option_and_then (λ (x : Declared). x.doc)) at) ∙ none))

pub no_field_at : (env : Env) (f : FieldId) → has_no_document env f.of → field_at env f ≡ None
no_field_at env f none = by (declared_at env f.of) refl
  where
    by : (o : Option Declared) → declared_at env f.of ≡ o → option_and_then (λ (d : Declared). slice_get d.type.fields f.place) o ≡ None
    by None e = refl
    by (Some d) e = ap (λ fs. slice_get fs f.place) (fields-without env f.of none d e)

pub none_declared : (env : Env) (t : TypeId) (name : Identifier) → has_no_document env t → declared_fields env t name ≡ []
none_declared env t name none = by (declared_at env t) refl
  where
    by : (o : Option Declared) → declared_at env t ≡ o → filter (is_field_named env name) (option_map_or fields_in o []) ≡ []
    by None e = refl
    by (Some d) e = ap (λ fs. filter (is_field_named env name) (fields_from (id_of d) 0 fs)) (fields-without env t none d e)

-- the field at a place of a type
at-place : (env : Env) (t : TypeId) (d : Declared) → declared_at env t ≡ Some d → (place : ℕ) (o : Option OutlineField) → slice_get d.type.fields place ≡ o
    → field_at env (record { of = t; place = place }) ≡ o
at-place env t d at place o e = ap (option_and_then (λ (x : Declared). slice_get x.type.fields place)) at ∙ e

later : (fs : List OutlineField) (place : ℕ) (f : OutlineField) (rest : List OutlineField) → drop place fs ≡ f ∷ rest → (slice_get fs place ≡ Some f) × (drop (place + 1) fs ≡ rest)
later [] zero f rest e = absurd cc
later [] (suc n) f rest e = absurd cc
later (x ∷ xs) zero f rest e = (ap (λ ys. slice_get ys 0) e, ap (λ ys. drop 1 ys) e)
later (x ∷ xs) (suc n) f rest e =
    let r = later xs n f rest e in
    let next : suc n + 1 ≡ suc (n + 1) = omega arith in
    (r.0, ap (λ k. drop k (x ∷ xs)) next ∙ r.1)

called-from : (env : Env) (t : TypeId) (d : Declared) (name : Identifier) → declared_at env t ≡ Some d → (fs : List OutlineField) (place : ℕ) → drop place d.type.fields ≡ fs
    → filter (is_field_named env name) (fields_from t place fs) ≡ fields_called t place name fs
called-from env t d name at [] place e = refl
called-from env t d name at (f ∷ fs) place e =
    let r = later d.type.fields place f fs e in
    let named : is_field_named env name (record { of = t; place = place }) ≡ bytes_eq name f.name =
    ap (λ o. option_map_or (λ (x : OutlineField). bytes_eq name x.name) o false) (at-place env t d at place (Some f) r.0) in
    by (is_field_named env name (record { of = t; place = place })) (bytes_eq name f.name) named (called-from env t d name at fs (place + 1) r.1)
  where
    by : (a b : Bool) → a ≡ b → filter (is_field_named env name) (fields_from t (place + 1) fs) ≡ fields_called t (place + 1) name fs
        → cond a (record { of = t; place = place } ∷ filter (is_field_named env name) (fields_from t (place + 1) fs)) (filter (is_field_named env name) (fields_from t (place + 1) fs))
        ≡ cond b (record { of = t; place = place } ∷ fields_called t (place + 1) name fs) (fields_called t (place + 1) name fs)
    by true true h r = ap (λ gs. record { of = t; place = place } ∷ gs) r
    by false false h r = r
    by true false h r = absurd cc
    by false true h r = absurd cc

pub declared_are : (env : Env) (t : TypeId) (d : Declared) (name : Identifier) → declared_at env t ≡ Some d → fields_called t 0 name d.type.fields ≡ declared_fields env t name
declared_are env t d name at =
    sym (called-from env t d name at d.type.fields 0 refl)
    ∙ ap (λ u. filter (is_field_named env name) (fields_from u 0 d.type.fields)) (sym (own_id env t d at))
    ∙ ap (λ o. filter (is_field_named env name) (option_map_or fields_in o [])) (sym at)

-- ---- those that it has

has-step : Env → Identifier → (TypeId → List FieldId) → TypeId → List FieldId
has-step env name f t = or_else (declared_fields env t name) (λ _. filter (inherits_field env t) (flat_map f (known_supers env t)))

pub or-nothing : {X : Type 0} (xs : List X) → or_else xs (λ _. []) ≡ xs
or-nothing [] = refl
or-nothing (x ∷ xs) = refl

field-steps : (env : Env) (name : Identifier) → Step env (λ d t. fields_by d env t name) (has-step env name)
unfolding has-step
field-steps env name = record {
  next = λ d t. refl;
  asks = λ f g t h. ap (λ fs. or_else (declared_fields env t name) (λ _. filter (inherits_field env t) fs)) (flat-same f g (known_supers env t) h);
  starts = λ f t e.
      ap (λ ts. or_else (declared_fields env t name) (λ _. filter (inherits_field env t) (flat_map f ts))) (known-none env t e) ∙ or-nothing (declared_fields env t name);
}

has : (env : Env) (name : Identifier) (t : TypeId) → SupertypesHaveNoCycle → SubIsTransitive → fields_by (count env) env t name ≡ has-step env name (λ s. fields_by (count env) env s name) t
has env name t acyclic transitive = settled env (λ d t. fields_by d env t name) (has-step env name) (field-steps env name) acyclic transitive t

or-some : {X : Type 0} (xs : List X) (f : Unit {0} → List X) → (xs ≡ [] → ⊥) → or_else xs f ≡ xs
or-some [] f h = absurd (h refl)
or-some (x ∷ xs) f h = refl

pub has-own : (env : Env) (name : Identifier) (t : TypeId) (ms : List Member) → SupertypesHaveNoCycle → SubIsTransitive → (declared_fields env t name ≡ [] → ⊥)
    → ms ≡ map of_field (declared_fields env t name) → Same ms (fields_had env name t)
unfolding fields_had has-step
has-own env name t ms acyclic transitive some is =
    same-if ms (fields_had env name t)
    (is ∙ ap (map of_field)
    (sym (has env name t acyclic transitive ∙ or-some (declared_fields env t name) (λ _. filter (inherits_field env t) (flat_map (λ s. fields_by (count env) env s name) (known_supers env t))) some)))

pub has-inherited : (env : Env) (name : Identifier) (t : TypeId) (inherited ms : List Member) → SupertypesHaveNoCycle → SubIsTransitive → declared_fields env t name ≡ []
    → Same inherited (flat_map (fields_had env name) (known_supers env t)) → ms ≡ filter (λ m. inherits_field env t (field_of m)) inherited → Same ms (fields_had env name t)
unfolding fields_had has-step
has-inherited env name t inherited ms acyclic transitive none s is =
    let q : Member → Bool = λ m. inherits_field env t (field_of m) in
    let supers : List TypeId = known_supers env t in
    let all : List FieldId = flat_map (λ u. fields_by (count env) env u name) supers in
    let so : filter q (flat_map (fields_had env name) supers) ≡ fields_had env name t =
    ap (filter q) (sym (map-flat of_field (λ u. fields_by (count env) env u name) supers)) ∙ sym (map-filter of_field (inherits_field env t) q (λ f. refl) all)
    ∙ ap (map of_field) (sym (has env name t acyclic transitive ∙ ap (λ fs. or_else fs (λ _. filter (inherits_field env t) all)) none)) in
    same-both ms (filter q inherited) (fields_had env name t) (same-if ms (filter q inherited) is)
    (same-both (filter q inherited) (filter q (flat_map (fields_had env name) supers)) (fields_had env name t) (same-filter q inherited (flat_map (fields_had env name) supers) s)
    (same-if (filter q (flat_map (fields_had env name) supers)) (fields_had env name t) so))
