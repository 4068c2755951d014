-- What the identifiers of a name mean at a place (JLS 6.5), each a package, a type, a variable or nothing.
use Rattle.std.specs.Prelude.{cond, List, [], ◌∷◌, ◌++◌, Option, Some, None, codes, option_to_list}
use Rattle.std.specs.Option.{option_map_or}
use Rattle.std.specs.Str.{bytes_eq}
use Rattle.java_tree.specs.declared.bound.Bound.{Bound}
use Rattle.java_tree.specs.declared.bound.Bound.TheVariants as bounds
use Rattle.java_tree.specs.declared.names.Primitive.TheVariants as primitives
use Rattle.java_tree.specs.declared.occurrence.FieldId.{FieldId}
use Rattle.java_tree.specs.declared.occurrence.TypeId.{TypeId}
use Rattle.java_tree.specs.declared.types.JType.{JType}
use Rattle.java_tree.specs.declared.types.JType.TheVariants as types
use Rattle.java_tree.specs.declared.types.NameKind.{NameKind}
use Rattle.java_tree.specs.declared.types.NameKind.TheVariants as kinds
use Rattle.java_model.specs.Names.Lists.{Identifier, Identifiers, with_dots, the_one, otherwise}
use Rattle.java_model.specs.Names.Environments.{Env, type_named, is_known_package}
use Rattle.java_model.specs.Names.Fields.{fields, field_named, field_info}
use Rattle.java_model.specs.Names.MemberTypes.{member_types}
use Rattle.java_model.specs.Grammar.Forms.{last_or}
use Rattle.java_model.specs.Scopes.Contexts.{Context, innermost, resolve_at}

abbrev pub kind_or_nothing : {A : Type 0} → (A → NameKind) → Option A → NameKind
kind_or_nothing kind None = kinds.Nothing
kind_or_nothing kind (Some x) = kind x

-- a package where it is known, else nothing (JLS 7.1)
abbrev pub package_kind : Env → Identifiers → NameKind
package_kind env name = cond (is_known_package env name) kinds.Package kinds.Nothing

abbrev pub type_kind : List TypeId → Option NameKind
type_kind [] = None
type_kind (t ∷ ts) = Some (kind_or_nothing kinds.Class (the_one (t ∷ ts)))

-- The field of that name; two different ones that are inherited are none (JLS 8.3.3).
abbrev pub field_kind_among : Env → TypeId → Identifier → List FieldId → Option NameKind
field_kind_among env t name [] = None
field_kind_among env t name (f ∷ fs) = Some (kind_or_nothing kinds.Field (field_named env t name))

abbrev pub field_kind : Env → TypeId → Identifier → Option NameKind
field_kind env t name = field_kind_among env t name (fields env t name)

-- `length` is the one field of an array (JLS 10.7).
abbrev pub array_field : Identifier → NameKind
array_field name = cond (bytes_eq name (codes "length")) (kinds.Local (types.Primitive primitives.Int)) kinds.Nothing

-- what a name selects of a value (JLS 6.5.6.2, 15.11.1)
abbrev pub selected_field : Env → JType → Identifier → NameKind
selected_field env (types.Class t) name = kind_or_nothing (λ k. k) (field_kind env t name)
selected_field env (types.Array e n) name = array_field name
selected_field env _ name = kinds.Nothing

abbrev pub field_type : Env → FieldId → JType
field_type env f = option_map_or (λ i. i.of) (field_info env f) types.Unknown

-- a local variable, a parameter or a field, the innermost (JLS 6.3, 6.5.6.1)
abbrev pub variable_at : Env → Identifier → Bound → Option NameKind
variable_at env name (bounds.Variable n t) = cond (bytes_eq name n) (Some (kinds.Local t)) None
variable_at env name (bounds.Members t) = field_kind env t name
variable_at env name _ = None

abbrev pub variable_kind : Context → List Bound → Identifier → Option NameKind
variable_kind C s name = innermost (variable_at C.env name) s

abbrev pub type_or_package : Env → JType → Identifier → NameKind
type_or_package env (types.Class t) name = kinds.Class t
type_or_package env _ name = package_kind env (name ∷ [])

-- A simple ambiguous name is a variable, else a type, else a package (JLS 6.5.2).
abbrev pub simple_kind : Context → List Bound → Identifier → NameKind
simple_kind C s name = kind_or_nothing (λ k. k) (otherwise (variable_kind C s name) (λ _. Some (type_or_package C.env (resolve_at C s (name ∷ [])) name)))

-- what follows a package: a type of it, else a package (JLS 6.5.2, 6.5.4.2)
abbrev pub after_package : Env → Identifiers → Identifier → NameKind
after_package env left name = kind_or_nothing (λ k. k)
    (otherwise (type_kind (option_to_list (type_named env (with_dots left) (name ∷ [])))) (λ _. Some (package_kind env (left ++ name ∷ []))))

-- what follows a type: a field, else a member type (JLS 6.5.2)
abbrev pub after_type : Env → TypeId → Identifier → NameKind
after_type env t name = kind_or_nothing (λ k. k) (otherwise (field_kind env t name) (λ _. type_kind (member_types env t name)))

-- what follows what the identifiers so far mean (JLS 6.5.2)
abbrev pub next_kind : Env → NameKind → Identifiers → Identifier → NameKind
next_kind env kinds.Package left name = after_package env left name
next_kind env (kinds.Class t) left name = after_type env t name
next_kind env (kinds.Field f) left name = selected_field env (field_type env f) name
next_kind env (kinds.Local t) left name = selected_field env t name
next_kind env kinds.Nothing left name = kinds.Nothing

abbrev pub kinds_after : Env → NameKind → Identifiers → Identifiers → List NameKind
kinds_after env kind left [] = []
kinds_after env kind left (x ∷ xs) = let next = next_kind env kind left x in next ∷ kinds_after env next (left ++ x ∷ []) xs

-- what each identifier of an ambiguous name means (JLS 6.5.2)
abbrev pub ambiguous_kinds : Context → List Bound → Identifiers → List NameKind
ambiguous_kinds C s [] = []
ambiguous_kinds C s (x ∷ xs) = let kind = simple_kind C s x in kind ∷ kinds_after C.env kind (x ∷ []) xs

-- what an ambiguous name means at a place
abbrev pub classify : Context → List Bound → Identifiers → NameKind
classify C s names = last_or kinds.Nothing (ambiguous_kinds C s names)
