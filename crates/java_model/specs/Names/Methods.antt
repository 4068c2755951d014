-- Methods and constructors (JLS 8.4, 8.8, 9.4): those that a type declares, inherits and overrides.
use Rattle.std.specs.Prelude.{ℕ, zero, suc, ◌+◌, Bool, false, not, ◌&&◌, ◌||◌, ◌==◌, cond, List, [], ◌∷◌, ◌++◌, Option, None, map, length, slice_get, is_none, option_map, drop}
use Rattle.std.specs.List.{filter, flat_map, list_any}
use Rattle.std.specs.Option.{option_map_or, option_and_then}
use Rattle.std.specs.Str.{bytes_eq}
use lib.Pointwise.{pointwise}
use Rattle.java_tree.specs.declared.names.Modifier.TheVariants as modifiers
use Rattle.java_tree.specs.declared.occurrence.MethodId.{MethodId}
use Rattle.java_tree.specs.declared.occurrence.TypeId.{TypeId}
use Rattle.java_tree.specs.declared.outline.OutlineMethod.{OutlineMethod}
use Rattle.java_tree.specs.declared.types.JType.{JType}
use Rattle.java_tree.specs.declared.types.MethodInfo.{MethodInfo}
use Rattle.java_model.specs.Outlines.{spelled_void}
use Rattle.java_model.specs.Names.Lists.{Identifier, is_among, reached}
use Rattle.java_model.specs.Names.Environments.{Env, Declared, declared, declared_at, id_of, same_id, object, is_interface, is_local, parent_of}
use Rattle.java_model.specs.Names.Access.{Visibility, visibility, spelled_visibility, access_bits, passes_on, has_modifier, is_public}
use Rattle.java_model.specs.Names.Supertypes.{known_supers, is_interface_type, ancestors, is_sub, count}
use Rattle.java_model.specs.Names.Types.{spelled, same_type}
use Rattle.java_model.specs.Names.MemberTypes.{in_order, resolve_in_body}

abbrev pub same_method : MethodId → MethodId → Bool
same_method m n = same_id m.of n.of && (m.place == n.place)

-- the access of a type: a member of an interface is public (JLS 6.6.1, 9.5)
abbrev pub owner_of : Env → Declared → Option Declared
owner_of env d = cond (is_local d.type) None (option_and_then (declared_at env) (parent_of d))

abbrev pub type_visibility : Env → Declared → Visibility
type_visibility env d = option_map_or (λ p. visibility p d.type.modifiers) (owner_of env d) (spelled_visibility d.type.modifiers)

-- A class without constructors has one without parameters, of its own access (JLS 8.8.7). Of a class that no document
-- declares nothing is known.
abbrev pub default_constructor : Env → Declared → OutlineMethod
default_constructor env d = record {
  name = d.type.name;
  params = [];
  result = spelled_void 0;
  modifiers = access_bits (type_visibility env d);
  span = d.type.span;
}

abbrev pub default_constructors : Env → Declared → List OutlineMethod → List OutlineMethod
default_constructors env d [] = cond (is_interface d.type.kind || is_none d.doc) [] (default_constructor env d ∷ [])
default_constructors env d (c ∷ cs) = []

-- A constructor has its place after the methods of its class.
abbrev pub bodies_of : Env → Declared → List OutlineMethod
bodies_of env d = d.type.methods ++ d.type.constructors ++ default_constructors env d d.type.constructors

abbrev pub method_at : Env → MethodId → Option OutlineMethod
method_at env m = option_and_then (λ d. slice_get (bodies_of env d) m.place) (declared_at env m.of)

abbrev pub ids_from : TypeId → ℕ → List OutlineMethod → List MethodId
ids_from t place [] = []
ids_from t place (m ∷ ms) = record { of = t; place = place } ∷ ids_from t (place + 1) ms

abbrev pub methods_in : Declared → List MethodId
methods_in d = ids_from (id_of d) 0 d.type.methods

abbrev pub all_methods : Env → List MethodId
all_methods env = flat_map methods_in (declared env)

-- the constructors of a class itself, the default one too (JLS 8.8)
abbrev pub constructors_in : Env → Declared → List MethodId
constructors_in env d = ids_from (id_of d) (length d.type.methods) (drop (length d.type.methods) (bodies_of env d))

abbrev pub constructors : Env → TypeId → List MethodId
constructors env t = option_map_or (constructors_in env) (declared_at env t) []

abbrev pub method_info_of : Env → Declared → OutlineMethod → MethodInfo
method_info_of env d m = record {
  name = m.name;
  params = map (spelled (resolve_in_body env d)) m.params;
  result = spelled (resolve_in_body env d) m.result;
  modifiers = m.modifiers;
  span = m.span;
}

abbrev pub method_info : Env → MethodId → Option MethodInfo
method_info env m = option_and_then (λ d. option_map (method_info_of env d) (slice_get (bodies_of env d) m.place)) (declared_at env m.of)

abbrev pub params : Env → MethodId → List JType
params env m = option_map_or (λ i. i.params) (method_info env m) []

-- two methods of one name and the same parameter types (JLS 8.4.2)
abbrev pub method_name : Env → MethodId → Identifier
method_name env m = option_map_or (λ o. o.name) (method_at env m) []

abbrev pub same_signature : Env → MethodId → MethodId → Bool
same_signature env m n = bytes_eq (method_name env m) (method_name env n) && pointwise same_type (params env m) (params env n)

abbrev pub method_modifiers : Env → MethodId → ℕ
method_modifiers env m = option_map_or (λ o. o.modifiers) (method_at env m) 0

abbrev pub is_static : Env → MethodId → Bool
is_static env m = has_modifier modifiers.Static (method_modifiers env m)

-- A method of an interface is abstract without the word too (JLS 9.4).
abbrev pub is_abstract : Env → MethodId → Bool
is_abstract env m = is_interface_type env m.of || has_modifier modifiers.Abstract (method_modifiers env m)

abbrev pub declared_methods : Env → TypeId → Identifier → List MethodId
declared_methods env t name = filter (λ m. bytes_eq name (method_name env m)) (option_map_or methods_in (declared_at env t) [])

-- An interface without superinterfaces has the public methods of Object (JLS 9.2).
abbrev pub is_bare_interface : Declared → Bool
is_bare_interface d = is_interface d.type.kind && is_none (slice_get d.type.extends 0)

abbrev pub public_methods : Env → TypeId → Identifier → List MethodId
public_methods env t name =
    filter (λ m. option_map_or (λ d. is_public (visibility d (method_modifiers env m))) (declared_at env t) false) (declared_methods env t name)

abbrev pub object_methods : Env → TypeId → Identifier → List MethodId
object_methods env t name =
    cond (option_map_or is_bare_interface (declared_at env t) false) (public_methods env (object env) name) []

-- A type inherits a method of a supertype that it doesn't override or hide (JLS 8.4.6, 9.4.1).
abbrev pub inherits_method : Env → TypeId → MethodId → Bool
inherits_method env t m =
    passes_on env m.of (method_modifiers env m) t && not (list_any (same_signature env m) (declared_methods env t (method_name env m)))

abbrev pub methods_by : ℕ → Env → TypeId → Identifier → List MethodId
methods_by zero env t name = declared_methods env t name
methods_by (suc d) env t name =
    declared_methods env t name
    ++ filter (inherits_method env t) (flat_map (λ s. methods_by d env s name) (known_supers env t) ++ object_methods env t name)

-- the methods of a name that a type has, in order of declaration
abbrev pub methods : Env → TypeId → Identifier → List MethodId
methods env t name = in_order same_method (all_methods env) (methods_by (count env) env t name)

-- whether a method is one of a supertype that is accessible in a type (JLS 8.4.6.1)
abbrev pub is_from_super : Env → MethodId → TypeId → Bool
is_from_super env n t = is_sub env t n.of && passes_on env n.of (method_modifiers env n) t

-- whether it is a public method of Object, in an interface without superinterfaces (JLS 9.2)
abbrev pub is_from_object : Env → MethodId → TypeId → Bool
is_from_object env n t = not (same_id t n.of) && is_among same_method n (object_methods env t (method_name env n))

-- An instance method overrides one of its signature that its type has from a supertype, or has from Object as an
-- interface or a subtype of one, and what that one overrides (JLS 8.4.6.1, 9.2, 9.4.1).
abbrev pub overrides_directly : Env → MethodId → MethodId → Bool
overrides_directly env m n =
    not (is_static env m) && not (is_static env n) && same_signature env m n
    && (is_from_super env n m.of || list_any (is_from_object env n) (m.of ∷ ancestors env m.of))

abbrev pub directly_overridden : Env → MethodId → List MethodId
directly_overridden env m = filter (overrides_directly env m) (all_methods env)

abbrev pub overridden : Env → MethodId → List MethodId
overridden env m =
    in_order same_method (all_methods env) (reached (length (all_methods env)) same_method (directly_overridden env) (m ∷ []) [])
