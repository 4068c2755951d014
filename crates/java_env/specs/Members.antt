-- What is kept of the fields, methods and constructors of each type.
use Rattle.std.specs.Prelude.{ℕ, zero, suc, ◌+◌, List, [], ◌∷◌, Option, map, length}
use Rattle.std.specs.Option.{option_and_then, option_map_or}
use Rattle.java_tree.specs.declared.occurrence.MethodId.{MethodId}
use Rattle.java_tree.specs.declared.occurrence.TypeId.{TypeId}
use Rattle.java_tree.specs.declared.types.FieldInfo.{FieldInfo}
use Rattle.java_tree.specs.declared.types.MethodInfo.{MethodInfo}
use Rattle.java_model.specs.Names.Accessibility.{top_level}
use Rattle.java_model.specs.Names.Environments.{Env, Declared, declared_at}
use Rattle.java_model.specs.Names.Fields.{field_info_of}
use Rattle.java_model.specs.Names.Methods.{bodies_of, method_info_of, methods_in}
use Rattle.java_env.specs.declared.members.Members.{Members}

abbrev pub fields_kept : Env → Option Declared → List FieldInfo
fields_kept env of = option_map_or (λ d. map (field_info_of env d) d.type.fields) of []

abbrev pub bodies_kept : Env → Option Declared → List MethodInfo
bodies_kept env of = option_map_or (λ d. map (method_info_of env d) (bodies_of env d)) of []

abbrev pub methods_kept : Option Declared → ℕ
methods_kept of = option_map_or (λ d. length d.type.methods) of 0

abbrev pub top_kept : Option Declared → Option TypeId
top_kept of = option_and_then top_level of

-- its fields, its methods and constructors, how many of these are methods, and the top level type around it
abbrev pub members_at : Env → Option Declared → Members
members_at env of = record { fields = fields_kept env of; bodies = bodies_kept env of; methods = methods_kept of; top = top_kept of }

abbrev pub members_of : Env → TypeId → Members
members_of env t = members_at env (declared_at env t)

-- the number of the methods that a type declares, and of these and its constructors
abbrev pub method_count : Env → TypeId → ℕ
method_count env t = methods_kept (declared_at env t)

abbrev pub body_count : Env → TypeId → ℕ
body_count env t = option_map_or (λ d. length (bodies_of env d)) (declared_at env t) 0

-- so many methods of a type, from a place on
abbrev pub places : TypeId → ℕ → ℕ → List MethodId
places t place zero = []
places t place (suc many) = record { of = t; place = place } ∷ places t (place + 1) many

-- the methods that a type declares
abbrev pub methods_of : Env → TypeId → List MethodId
methods_of env t = option_map_or methods_in (declared_at env t) []
