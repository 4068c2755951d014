-- Member types (JLS 8.5, 9.5), and what type names mean once the supertypes are known.
use Rattle.std.specs.Prelude.{ℕ, zero, suc, Bool, List}
use Rattle.std.specs.List.{filter}
use Rattle.java_model.specs.Names.Lists.{Identifiers, or_else, is_among}
use Rattle.java_tree.specs.declared.types.JType.{JType}
use Rattle.java_model.specs.Names.Environments.{Env, Declared, ids, same_id}
use Rattle.java_model.specs.Names.TypeNames.{Ask, TypeScope, body_scope, resolve_by}
use Rattle.java_model.specs.Names.Supertypes.{count, declared_types, inherited_types, known_supers}

-- those of all in order that are found
abbrev pub in_order : {X : Type 0} → (X → X → Bool) → List X → List X → List X
in_order same all found = filter (λ x. is_among same x found) all

-- The declared member types hide those of the same name.
abbrev pub member_types_by : ℕ → Env → Ask
member_types_by zero env t name = declared_types env t name
member_types_by (suc d) env t name =
    or_else (declared_types env t name) (λ _. inherited_types env (member_types_by d env) t name (known_supers env t))

-- in order of declaration
abbrev pub member_types : Env → Ask
member_types env t name = in_order same_id (ids env) (member_types_by (count env) env t name)

-- what a type name means in a scope
abbrev pub resolve : Env → TypeScope → Identifiers → JType
resolve env = resolve_by env (member_types env)

-- what a type name in the declaration of a member means
abbrev pub resolve_in_body : Env → Declared → Identifiers → JType
resolve_in_body env d = resolve env (body_scope d)
