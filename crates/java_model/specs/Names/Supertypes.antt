-- The supertypes of types (JLS 8.1.3, 8.1.4, 9.1.2, 15.9.5). A supertype's name may need the member types of other
-- types, and so their supertypes: the types whose look-up is under way are in hand.
use Rattle.std.specs.Prelude.{ℕ, zero, suc, Bool, true, false, not, ◌&&◌, cond, List, [], ◌∷◌, ◌++◌, Option, None, map, length, slice_get, option_map, option_to_list, Contains}
use Rattle.std.specs.List.{filter, flat_map, find}
use Rattle.std.specs.Option.{option_map_or}
use Rattle.std.specs.Str.{bytes_eq}
use Rattle.java_tree.specs.declared.occurrence.TypeId.{TypeId}
use Rattle.java_tree.specs.declared.outline.TypeKind.{TypeKind}
use Rattle.java_tree.specs.declared.outline.TypeKind.TheVariants as kinds
use Rattle.java_tree.specs.declared.types.JType.{JType}
use Rattle.java_tree.specs.declared.types.JType.TheVariants as types
use Rattle.java_model.specs.Names.Lists.{Identifier, Identifiers, or_else, unless, is_among, fresh, reached}
use Rattle.java_model.specs.Names.Environments.{Env, Declared, declared, declared_at, parent_of, is_local, is_interface, first_declaration, same_id, is_java_lang, object_name, object}
use Rattle.java_model.specs.Names.TypeNames.{Ask, class_of, header_scope, resolve_by}
use Rattle.java_model.specs.Names.Access.{passes_on}

-- how many types there are: no chain of different types is longer
abbrev pub count : Env → ℕ
count env = length (declared env)

-- A member type by its name, the first of several (JLS 8.5). Where its qualified name is declared twice, the first counts.
abbrev pub is_member_type : TypeId → Identifier → Declared → Bool
is_member_type t name d = not (is_local d.type) && bytes_eq name d.type.name && option_map_or (same_id t) (parent_of d) false

abbrev pub declared_types : Env → Ask
declared_types env t name = option_to_list (option_map (first_declaration env) (find (is_member_type t name) (declared env)))

-- whether a type inherits a member type (JLS 8.5)
abbrev pub inherits_type : Env → TypeId → TypeId → Bool
inherits_type env t m =
    option_map_or (λ d. option_map_or (λ p. passes_on env p d.type.modifiers t) (parent_of d) false) (declared_at env m) false

-- what a type inherits of its supertypes, each once
abbrev pub inherited_types : Env → Ask → TypeId → Identifier → List TypeId → List TypeId
inherited_types env ask t name supers = fresh same_id [] (filter (inherits_type env t) (flat_map (λ s. ask s name) supers))

abbrev pub is_interface_type : Env → TypeId → Bool
is_interface_type env t = option_map_or (λ d. is_interface d.type.kind) (declared_at env t) false

-- An anonymous class extends the class in its creation, or Object where that is an interface (JLS 15.9.5).
abbrev pub is_interface_name : Env → JType → Bool
is_interface_name env (types.Class t) = is_interface_type env t
is_interface_name env _ = false

abbrev pub anonymous_supers : Env → JType → List JType
anonymous_supers env created = cond (is_interface_name env created) (types.Class (object env) ∷ created ∷ []) (created ∷ [])

-- A class without `extends` has Object as its superclass (JLS 8.1.3).
abbrev pub or_object : Env → List JType → List JType
or_object env [] = types.Class (object env) ∷ []
or_object env (t ∷ ts) = t ∷ ts

-- the supertypes of a type by its kind, given what names in its header mean
abbrev pub supers_by : Env → (Identifiers → JType) → TypeKind → List Identifiers → List Identifiers → List JType
supers_by env mean kinds.Class extends implements = or_object env (map mean extends) ++ map mean implements
supers_by env mean kinds.Interface extends implements = map mean extends
supers_by env mean kinds.Anonymous extends implements = flat_map (λ n. anonymous_supers env (mean n)) extends

-- Object has no supertype, whatever its declaration spells (JLS 8.1.3).
abbrev pub supers_of : Env → Ask → Declared → List JType
supers_of env ask d = cond (is_java_lang object_name d) []
    (supers_by env (resolve_by env ask (header_scope d)) d.type.kind d.type.extends d.type.implements)

abbrev pub supers_asking : Env → Ask → TypeId → List JType
supers_asking env ask t = option_map_or (supers_of env ask) (declared_at env t) []

-- The member types of a type, where some types are in hand: of these the declared ones alone count. Any other type is
-- in hand while its own supertypes are looked up, and asked.
abbrev pub member_of : ℕ → Env → List TypeId → Ask
member_of zero env hand t name = declared_types env t name
member_of (suc d) env hand t name =
    or_else (declared_types env t name)
    (λ _. unless (is_among same_id t hand)
    (λ _. inherited_types env (member_of d env (t ∷ hand)) t name (flat_map class_of (supers_asking env (member_of d env (t ∷ hand)) t))))

-- what the names in the header of a type mean: the type is in hand
abbrev pub header_ask : Env → TypeId → Ask
header_ask env t = member_of (count env) env (t ∷ [])

abbrev pub resolve_in_header : Env → Declared → TypeId → Identifiers → JType
resolve_in_header env d t = resolve_by env (header_ask env t) (header_scope d)

abbrev pub header_supers : Env → TypeId → List JType
header_supers env t = supers_asking env (header_ask env t) t

-- A type to which its supertypes lead back has no known ones; its superclass counts as Absent (JLS 8.1.3, 9.1.2).
abbrev pub leads_to : Env → (TypeId → List TypeId) → TypeId → List TypeId
leads_to env next t = reached (suc (count env)) same_id next (t ∷ []) []

abbrev pub is_on_cycle : Env → TypeId → Bool
is_on_cycle env t = is_among same_id t (leads_to env (λ s. flat_map class_of (header_supers env s)) t)

-- the direct supertypes of a type, its superclass first
abbrev pub supers : Env → TypeId → List JType
supers env t = cond (is_on_cycle env t) (types.Absent [] ∷ []) (header_supers env t)

abbrev pub known_supers : Env → TypeId → List TypeId
known_supers env t = flat_map class_of (supers env t)

-- the superclass of a class other than Object (JLS 8.1.3)
abbrev pub has_superclass : TypeKind → Bool
has_superclass kinds.Interface = false
has_superclass _ = true

abbrev pub superclass : Env → TypeId → Option JType
superclass env t = cond (option_map_or (λ d. has_superclass d.type.kind) (declared_at env t) false) (slice_get (supers env t) 0) None

-- a chain of one supertype or more (JLS 8.1.3, 9.1.2)
pub data Sub (env : Env) : TypeId → TypeId → Type 0 where
  direct : (s t : TypeId) → Contains (known_supers env s) t → Sub env s t
  further : (s u t : TypeId) → Contains (known_supers env s) u → Sub env u t → Sub env s t

abbrev pub ancestors : Env → TypeId → List TypeId
ancestors env = leads_to env (known_supers env)

abbrev pub is_sub : Env → TypeId → TypeId → Bool
is_sub env s t = is_among same_id t (ancestors env s)
