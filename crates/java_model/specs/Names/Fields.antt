-- Fields (JLS 8.3, 9.3): those that a type declares, and those that it inherits.
use Rattle.std.specs.Prelude.{ℕ, zero, suc, ◌+◌, Bool, false, ◌&&◌, ◌==◌, List, [], ◌∷◌, Option, slice_get, option_map}
use Rattle.std.specs.List.{filter, flat_map}
use Rattle.std.specs.Option.{option_or, option_map_or, option_and_then}
use Rattle.std.specs.Str.{bytes_eq}
use Rattle.java_tree.specs.declared.occurrence.FieldId.{FieldId}
use Rattle.java_tree.specs.declared.occurrence.TypeId.{TypeId}
use Rattle.java_tree.specs.declared.outline.OutlineField.{OutlineField}
use Rattle.java_tree.specs.declared.types.FieldInfo.{FieldInfo}
use Rattle.java_model.specs.Names.Lists.{Identifier, or_else, the_one}
use Rattle.java_model.specs.Names.Environments.{Env, Declared, declared, declared_at, id_of, same_id}
use Rattle.java_model.specs.Names.Access.{passes_on}
use Rattle.java_model.specs.Names.Supertypes.{count, known_supers}
use Rattle.java_model.specs.Names.Types.{spelled}
use Rattle.java_model.specs.Names.MemberTypes.{in_order, resolve_in_body}

abbrev pub same_field : FieldId → FieldId → Bool
same_field f g = same_id f.of g.of && (f.place == g.place)

abbrev pub field_at : Env → FieldId → Option OutlineField
field_at env f = option_and_then (λ d. slice_get d.type.fields f.place) (declared_at env f.of)

-- the fields of a type from a place on
abbrev pub fields_from : TypeId → ℕ → List OutlineField → List FieldId
fields_from t place [] = []
fields_from t place (f ∷ fs) = record { of = t; place = place } ∷ fields_from t (place + 1) fs

abbrev pub fields_in : Declared → List FieldId
fields_in d = fields_from (id_of d) 0 d.type.fields

abbrev pub all_fields : Env → List FieldId
all_fields env = flat_map fields_in (declared env)

abbrev pub is_field_named : Env → Identifier → FieldId → Bool
is_field_named env name f = option_map_or (λ o. bytes_eq name o.name) (field_at env f) false

abbrev pub declared_fields : Env → TypeId → Identifier → List FieldId
declared_fields env t name = filter (is_field_named env name) (option_map_or fields_in (declared_at env t) [])

-- whether a type inherits a field of a supertype that it doesn't hide (JLS 8.3)
abbrev pub inherits_field : Env → TypeId → FieldId → Bool
inherits_field env t f = option_map_or (λ o. passes_on env f.of o.modifiers t) (field_at env f) false

-- The declared fields of a name hide all others of it (JLS 8.3, 9.3).
abbrev pub fields_by : ℕ → Env → TypeId → Identifier → List FieldId
fields_by zero env t name = declared_fields env t name
fields_by (suc d) env t name =
    or_else (declared_fields env t name)
    (λ _. filter (inherits_field env t) (flat_map (λ s. fields_by d env s name) (known_supers env t)))

-- the fields of a name that a type has, in order of declaration
abbrev pub fields : Env → TypeId → Identifier → List FieldId
fields env t name = in_order same_field (all_fields env) (fields_by (count env) env t name)

-- The field that a name means: the first that is declared, else the only one that is inherited (JLS 8.3.3).
abbrev pub field_named : Env → TypeId → Identifier → Option FieldId
field_named env t name = option_or (slice_get (declared_fields env t name) 0) (the_one (fields env t name))

abbrev pub field_info_of : Env → Declared → OutlineField → FieldInfo
field_info_of env d f = record { name = f.name; of = spelled (resolve_in_body env d) f.of; modifiers = f.modifiers; span = f.span }

abbrev pub field_info : Env → FieldId → Option FieldInfo
field_info env f = option_and_then (λ d. option_map (field_info_of env d) (slice_get d.type.fields f.place)) (declared_at env f.of)
