-- What is kept of fields, methods and constructors is what is defined.
use Rattle.std.proofs.Common.{◌≡◌, List, Option, Some, None, inl, inr, length, option_map, refl, sym, ap, ◌∙◌, arith}
use Rattle.std.specs.Prelude.{slice_get, ◌⊎◌}
use Rattle.std.specs.Option.{option_and_then, option_map_or}
use Rattle.std.proofs.lemmas.Bool.{cases_lt}
use Rattle.std.proofs.lemmas.List.{length-map}
use Rattle.std.proofs.lemmas.Option.{none-some, same_Some, slice_get-map, slice_get_past}
use Rattle.java_tree.specs.declared.occurrence.FieldId.{FieldId}
use Rattle.java_tree.specs.declared.occurrence.MethodId.{MethodId}
use Rattle.java_tree.specs.declared.occurrence.TypeId.{TypeId}
use Rattle.java_model.specs.Names.Environments.{Env, Declared, declared, declared_at}
use Rattle.java_model.specs.Names.Fields.{field_info, field_info_of}
use Rattle.java_model.specs.Names.Methods.{bodies_of, method_info, method_info_of}
use Rattle.java_model.specs.Names.Supertypes.{count}
use Rattle.java_supers.specs.Reaching.{HasAll}
use Rattle.java_env.specs.declared.members.Members.{Members}
use Rattle.java_env.specs.Members.{bodies_kept, body_count, fields_kept, members_of, method_count, methods_kept, top_kept}

-- what a table has of a type: its members, or none of one that isn't declared
is-kept : (env : Env) (table : List Members) (t : TypeId) → HasAll (members_of env) env table
    → (slice_get table t.0 ≡ Some (members_of env t)) ⊎ ((slice_get table t.0 ≡ None) × (declared_at env t ≡ None))
is-kept env table t h = elim (cases_lt t.0 (count env)) as (λ _. (slice_get table t.0 ≡ Some (members_of env t)) ⊎ ((slice_get table t.0 ≡ None) × (declared_at env t ≡ None))) [
  | inl l ↦ inl (h.each t.0 l)
  | inr g ↦ inr (slice_get_past table t.0 (let m = h.many_are in omega (arith, m, g)), slice_get_past (declared env) t.0 g)
]

-- what it has is that of the type
pub kept-some : (env : Env) (table : List Members) (t : TypeId) (x : Members) → HasAll (members_of env) env table → Some x ≡ slice_get table t.0 → x ≡ members_of env t
kept-some env table t x h at = elim (is-kept env table t h) as (λ _. x ≡ members_of env t) [
  | inl e ↦ same_Some x (members_of env t) (at ∙ e)
  | inr n ↦ absurd (none-some x (sym n.0 ∙ sym at))
]

pub kept-none : (env : Env) (table : List Members) (t : TypeId) → HasAll (members_of env) env table → None ≡ slice_get table t.0 → declared_at env t ≡ None
kept-none env table t h at = elim (is-kept env table t h) as (λ _. declared_at env t ≡ None) [
  | inl e ↦ absurd (none-some (members_of env t) (at ∙ e))
  | inr n ↦ n.1
]

-- ---- at a place

pub field-at : (env : Env) (f : FieldId) → slice_get (fields_kept env (declared_at env f.of)) f.place ≡ field_info env f
field-at env f = by (declared_at env f.of)
  where
    by : (o : Option Declared) → slice_get (fields_kept env o) f.place ≡ option_and_then (λ d. option_map (field_info_of env d) (slice_get d.type.fields f.place)) o
    by None = refl
    by (Some d) = slice_get-map (field_info_of env d) d.type.fields f.place

pub body-at : (env : Env) (m : MethodId) → slice_get (bodies_kept env (declared_at env m.of)) m.place ≡ method_info env m
body-at env m = by (declared_at env m.of)
  where
    by : (o : Option Declared) → slice_get (bodies_kept env o) m.place ≡ option_and_then (λ d. option_map (method_info_of env d) (slice_get (bodies_of env d) m.place)) o
    by None = refl
    by (Some d) = slice_get-map (method_info_of env d) (bodies_of env d) m.place

pub no-field : (env : Env) (f : FieldId) → declared_at env f.of ≡ None → field_info env f ≡ None
no-field env f e = ap (option_and_then (λ d. option_map (field_info_of env d) (slice_get d.type.fields f.place))) e

pub no-body : (env : Env) (m : MethodId) → declared_at env m.of ≡ None → method_info env m ≡ None
no-body env m e = ap (option_and_then (λ d. option_map (method_info_of env d) (slice_get (bodies_of env d) m.place))) e

pub no-methods : (env : Env) (t : TypeId) → declared_at env t ≡ None → method_count env t ≡ 0
no-methods env t e = ap methods_kept e

pub no-bodies : (env : Env) (t : TypeId) → declared_at env t ≡ None → body_count env t ≡ 0
no-bodies env t e = ap (λ o. option_map_or (λ d. length (bodies_of env d)) o 0) e

pub bodies-many : (env : Env) (t : TypeId) → length (bodies_kept env (declared_at env t)) ≡ body_count env t
bodies-many env t = by (declared_at env t)
  where
    by : (o : Option Declared) → length (bodies_kept env o) ≡ option_map_or (λ d. length (bodies_of env d)) o 0
    by None = refl
    by (Some d) = length-map (bodies_of env d) (method_info_of env d)

pub no-top : (env : Env) (t : TypeId) → declared_at env t ≡ None → top_kept (declared_at env t) ≡ None
no-top env t e = ap top_kept e
