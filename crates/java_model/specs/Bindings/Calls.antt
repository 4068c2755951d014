-- What calls and creations are bound to (JLS 15.9, 15.12).
use Rattle.std.specs.Prelude.{Bool, List, [], ◌∷◌, ◌++◌, Option, Some, None}
use Rattle.std.specs.List.{filter}
use Rattle.std.specs.Option.{option_map_or, option_and_then}
use Rattle.java_tree.specs.declared.bound.Bound.{Bound}
use Rattle.java_tree.specs.declared.bound.Bound.TheVariants as bounds
use Rattle.java_tree.specs.declared.occurrence.MethodId.{MethodId}
use Rattle.java_tree.specs.declared.occurrence.TypeId.{TypeId}
use Rattle.java_tree.specs.declared.types.Choice.{Choice}
use Rattle.java_tree.specs.declared.types.Choice.TheVariants as choices
use Rattle.java_tree.specs.declared.types.JType.{JType}
use Rattle.java_tree.specs.declared.types.JType.TheVariants as types
use Rattle.java_tree.specs.declared.types.NameKind.{NameKind}
use Rattle.java_tree.specs.declared.types.NameKind.TheVariants as kinds
use Rattle.java_model.specs.Names.Lists.{Identifier, with_dots, the_one}
use Rattle.java_model.specs.Names.Environments.{Env, object}
use Rattle.java_model.specs.Names.Accessibility.{is_accessible}
use Rattle.java_model.specs.Names.Supertypes.{superclass}
use Rattle.java_model.specs.Names.MemberTypes.{member_types}
use Rattle.java_model.specs.Names.Methods.{methods, constructors, method_info}
use Rattle.java_model.specs.Names.Overloads.{choose}
use Rattle.java_model.specs.Scopes.Contexts.{Context, innermost, this_type}
use Rattle.java_model.specs.Scopes.NameKinds.{field_type}

-- the types from whose bodies a place reaches protected members, innermost first: an anonymous class from the
-- arguments of its creation too (JLS 6.6.2)
abbrev pub reaching_type : Bound → List TypeId
reaching_type (bounds.Members t) = t ∷ []
reaching_type (bounds.Arguments t) = t ∷ []
reaching_type _ = []

abbrev pub reaching_types : List Bound → List TypeId
reaching_types [] = []
reaching_types (b ∷ bs) = reaching_types bs ++ reaching_type b

abbrev pub is_accessible_at : Context → List Bound → MethodId → Bool
is_accessible_at C s m = is_accessible C.env (reaching_types s) (with_dots C.outline.«package») m

abbrev pub only_choice : Choice → Option MethodId
only_choice (choices.One m) = Some m
only_choice _ = None

-- the chosen one of those that are accessible at a place (JLS 15.12.2)
abbrev pub chosen_at : Context → List Bound → List MethodId → List JType → Option MethodId
chosen_at C s ms arguments = only_choice (choose C.env (filter (is_accessible_at C s) ms) arguments)

-- the type to whose methods a receiver of that type leads; an array has those of Object (JLS 10.7)
abbrev pub receiving_type : Env → JType → Option TypeId
receiving_type env (types.Class t) = Some t
receiving_type env (types.Array e n) = Some (object env)
receiving_type env _ = None

abbrev pub call_in : Context → List Bound → Identifier → List JType → Option TypeId → Option MethodId
call_in C s name arguments None = None
call_in C s name arguments (Some t) = chosen_at C s (methods C.env t name) arguments

-- the type of a value or of a type before a dot, none for a package or nothing
abbrev pub qualifying_type : Env → NameKind → JType
qualifying_type env (kinds.Local t) = t
qualifying_type env (kinds.Field f) = field_type env f
qualifying_type env (kinds.Class t) = types.Class t
qualifying_type env _ = types.Unknown

abbrev pub if_any : {A : Type 0} → TypeId → List A → Option TypeId
if_any t [] = None
if_any t (m ∷ ms) = Some t

-- A simple method name is looked up in the innermost type around it that has a method of that name (JLS 15.12.1).
abbrev pub has_method : Env → Identifier → Bound → Option TypeId
has_method env name (bounds.Members t) = if_any t (methods env t name)
has_method env name _ = None

abbrev pub enclosing_type : Context → List Bound → Identifier → Option TypeId
enclosing_type C s name = innermost (has_method C.env name) s

-- the superclass of a type, Unknown without one (JLS 15.11.2, 15.12.1)
abbrev pub super_type : Env → JType → JType
super_type env (types.Class t) = option_map_or (λ u. u) (superclass env t) types.Unknown
super_type env _ = types.Unknown

abbrev pub this_class : List Bound → JType
this_class s = option_map_or types.Class (this_type s) types.Unknown

-- the declared type of what a call is bound to (JLS 15.12.3)
abbrev pub result_of : Env → Option MethodId → JType
result_of env m = option_map_or (λ i. i.result) (option_and_then (method_info env) m) types.Unknown

-- a constructor of a class itself (JLS 15.9.3)
abbrev pub constructor_in : Context → List Bound → JType → List JType → Option MethodId
constructor_in C s (types.Class t) arguments = chosen_at C s (constructors C.env t) arguments
constructor_in C s _ arguments = None

-- the member class that a qualified creation names (JLS 15.9.1)
abbrev pub inner_class : Env → JType → Identifier → Option TypeId
inner_class env (types.Class t) name = the_one (member_types env t name)
inner_class env _ name = None
