-- Laws of the definitions of names.
use Rattle.std.specs.Prelude.{◌≡◌, ◌⊎◌, List, Some, None, length, option_map, Contains}
use Rattle.java_tree.specs.declared.occurrence.FieldId.{FieldId}
use Rattle.java_tree.specs.declared.occurrence.MethodId.{MethodId}
use Rattle.java_tree.specs.declared.occurrence.TypeId.{TypeId}
use Rattle.java_tree.specs.declared.types.Choice.TheVariants.{One}
use Rattle.std.specs.List.{last_or}
use Rattle.java_tree.specs.declared.types.JType.{JType}
use Rattle.java_tree.specs.declared.types.JType.TheVariants.{Class}
use Rattle.java_model.specs.Names.Lists.{Identifier, Identifiers}
use Rattle.java_model.specs.Names.Environments.{Env, Declared, name_at}
use Rattle.java_model.specs.Names.TypeNames.{TypeScope}
use Rattle.java_model.specs.Names.Supertypes.{Sub, known_supers, declared_types, resolve_in_header}
use Rattle.java_model.specs.Names.MemberTypes.{member_types, resolve}
use Rattle.java_model.specs.Names.Fields.{field_at, fields, declared_fields}
use Rattle.java_model.specs.Names.Methods.{method_name, params, methods, declared_methods, object_methods, overridden}
use Rattle.java_model.specs.Names.Overloads.{choose}

-- SUPERTYPES (JLS 8.1.3, 9.1.2)
abbrev pub SubIsTransitive : Type 0
SubIsTransitive = (env : Env) (s t u : TypeId) → Sub env s t → Sub env t u → Sub env s u

abbrev pub SupertypesHaveNoCycle : Type 0
SupertypesHaveNoCycle = (env : Env) (t : TypeId) → Sub env t t → ⊥

-- MEMBERS (JLS 8.2): one that isn't declared in a type is one of a direct supertype.
abbrev pub IsOfSuper : Env → TypeId → (TypeId → Type 0) → Type 0
IsOfSuper env t P = (s : TypeId) × Contains (known_supers env t) s × P s

abbrev pub InheritedTypesAreOfSupers : Type 0
InheritedTypesAreOfSupers = (env : Env) (t : TypeId) (name : Identifier) (m : TypeId) → Contains (member_types env t name) m
    → Contains (declared_types env t name) m ⊎ IsOfSuper env t (λ s. Contains (member_types env s name) m)

abbrev pub InheritedFieldsAreOfSupers : Type 0
InheritedFieldsAreOfSupers = (env : Env) (t : TypeId) (name : Identifier) (f : FieldId) → Contains (fields env t name) f
    → Contains (declared_fields env t name) f ⊎ IsOfSuper env t (λ s. Contains (fields env s name) f)

-- or it is a public method of Object, in an interface (JLS 9.2)
abbrev pub InheritedMethodsAreOfSupers : Type 0
InheritedMethodsAreOfSupers = (env : Env) (t : TypeId) (name : Identifier) (m : MethodId) → Contains (methods env t name) m
    → Contains (declared_methods env t name) m
    ⊎ (IsOfSuper env t (λ s. Contains (methods env s name) m) ⊎ Contains (object_methods env t name) m)

-- NAMES: what a name is looked up by is its own name.
abbrev pub FieldsHaveTheirName : Type 0
FieldsHaveTheirName = (env : Env) (t : TypeId) (name : Identifier) (f : FieldId) → Contains (fields env t name) f
    → option_map (λ o. o.name) (field_at env f) ≡ Some name

abbrev pub MethodsHaveTheirName : Type 0
MethodsHaveTheirName = (env : Env) (t : TypeId) (name : Identifier) (m : MethodId) → Contains (methods env t name) m
    → method_name env m ≡ name

abbrev pub MemberTypesHaveTheirName : Type 0
MemberTypesHaveTheirName = (env : Env) (t : TypeId) (name : Identifier) (m : TypeId) → Contains (member_types env t name) m
    → name_at env m ≡ Some name

-- A type that a name means has the last identifier as its name, in a body and in a header.
abbrev pub ResolvedTypesHaveTheirName : Type 0
ResolvedTypesHaveTheirName = (env : Env) (s : TypeScope) (names : Identifiers) (t : TypeId) → resolve env s names ≡ Class t
    → name_at env t ≡ last_or None names

abbrev pub HeaderTypesHaveTheirName : Type 0
HeaderTypesHaveTheirName = (env : Env) (d : Declared) (u : TypeId) (names : Identifiers) (t : TypeId)
    → resolve_in_header env d u names ≡ Class t → name_at env t ≡ last_or None names

-- OVERRIDING (JLS 8.4.2, 8.4.6.1): the name and the number of parameters are the same.
abbrev pub OverriddenMethodsAreAlike : Type 0
OverriddenMethodsAreAlike = (env : Env) (m n : MethodId) → Contains (overridden env m) n
    → (method_name env n ≡ method_name env m) × (length (params env n) ≡ length (params env m))

-- CHOICE (JLS 15.12.2): the one that is chosen is among those that were given, and has as many parameters as there are arguments.
abbrev pub ChosenMethodFits : Type 0
ChosenMethodFits = (env : Env) (ms : List MethodId) (args : List JType) (m : MethodId) → choose env ms args ≡ One m
    → Contains ms m × (length (params env m) ≡ length args)
