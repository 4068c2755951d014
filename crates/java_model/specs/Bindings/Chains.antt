-- The types of primary expressions: what they begin with, and the selectors after that, from left to right (JLS 15.8
-- to 15.13).
use Rattle.std.specs.Prelude.{ℕ, List, [], ◌∷◌, ◌++◌, Option, Some, None, codes, slice_get, unwrap_or}
use Rattle.std.specs.List.{flat_map}
use Rattle.std.specs.Option.{option_map_or, option_and_then}
use Rattle.java_tree.specs.declared.bound.Bound.{Bound}
use Rattle.java_tree.specs.declared.names.Ident.{Ident}
use Rattle.java_tree.specs.declared.names.Literal.{Literal}
use Rattle.java_tree.specs.declared.names.Literal.TheVariants as literals
use Rattle.java_tree.specs.declared.names.Primitive.TheVariants as primitives
use Rattle.java_tree.specs.declared.occurrence.MethodId.{MethodId}
use Rattle.java_tree.specs.declared.occurrence.TypeId.{TypeId}
use Rattle.java_tree.specs.declared.expr.Creation.{Creation}
use Rattle.java_tree.specs.declared.expr.Expr.TheOpen.{First-F, Selector-F}
use Rattle.java_tree.specs.declared.expr.Selector.{Selector, out-Selector}
use Rattle.java_tree.specs.declared.types.JType.{JType}
use Rattle.java_tree.specs.declared.types.JType.TheVariants as types
use Rattle.java_tree.specs.declared.types.NameKind.{NameKind}
use Rattle.java_tree.specs.declared.types.NameKind.TheVariants as kinds
use Rattle.java_model.specs.Grammar.Forms.{FirstLayer, SelectorLayer, last_or}
use Rattle.java_model.specs.Outlines.{spelled_name}
use Rattle.java_model.specs.Names.Lists.{Identifier, Identifiers, with_dots}
use Rattle.java_model.specs.Names.Environments.{Env, Declared, declared_at, string, java_lang, type_named}
use Rattle.java_model.specs.Names.Types.{component}
use Rattle.java_model.specs.Tree.Children.{number_of}
use Rattle.java_model.specs.Scopes.Contexts.{Context, numbered_id, resolve_at}
use Rattle.java_model.specs.Scopes.NameKinds.{classify, selected_field}
use Rattle.java_model.specs.Scopes.TypeNames.{created_type}
use Rattle.java_model.specs.Bindings.Arithmetic.{boolean, int}
use Rattle.java_model.specs.Bindings.Calls.{call_in, receiving_type, qualifying_type, enclosing_type, super_type, this_class, result_of, inner_class}

-- The types that a node has: one of an expression, those of the arguments of a call, none of a statement.
abbrev pub Types : Type 0
Types = List JType

abbrev pub sole : Types → JType
sole [] = types.Unknown
sole (t ∷ ts) = t

-- the type of the part with that number
abbrev pub part : ℕ → List Types → JType
part n parts = sole (unwrap_or (slice_get parts n) [])

abbrev pub flat_types : List Types → Types
flat_types = flat_map (λ ts. ts)

-- the type of a class literal (JLS 15.8.2)
abbrev pub class_type : Env → JType
class_type env = let names = java_lang ++ codes "Class" ∷ [] in
    option_map_or types.Class (type_named env (with_dots java_lang) (codes "Class" ∷ [])) (types.Absent names)

-- JLS 15.8.1
abbrev pub literal_type : Env → Literal → JType
literal_type env (literals.Int text) = int
literal_type env (literals.Long text) = types.Primitive primitives.Long
literal_type env (literals.Float text) = types.Primitive primitives.Float
literal_type env (literals.Double text) = types.Primitive primitives.Double
literal_type env (literals.Char text) = types.Primitive primitives.Char
literal_type env (literals.String text) = types.Class (string env)
literal_type env literals.True = boolean
literal_type env literals.False = boolean
literal_type env literals.Null = types.Null

-- the type of a variable; a type or a package is no value (JLS 6.5.6)
abbrev pub variable_type : Env → NameKind → JType
variable_type env (kinds.Class t) = types.Unknown
variable_type env kind = qualifying_type env kind

abbrev pub no_name : Identifier
no_name = []

-- all identifiers but the last one, and the last one
abbrev pub but_last : Identifiers → Identifiers
but_last [] = []
but_last (x ∷ []) = []
but_last (x ∷ y ∷ more) = x ∷ but_last (y ∷ more)

abbrev pub last_name : Identifiers → Identifier
last_name = last_or no_name

-- the type before the method's name, none where a simple name means no method around (JLS 15.12.1)
abbrev pub type_before : Context → List Bound → Identifiers → Identifier → Option TypeId
type_before C s [] name = enclosing_type C s name
type_before C s (x ∷ xs) name = receiving_type C.env (qualifying_type C.env (classify C s (x ∷ xs)))

abbrev pub named_call : Context → List Bound → Identifiers → Types → Option MethodId
named_call C s names arguments =
    call_in C s (last_name names) arguments (type_before C s (but_last names) (last_name names))

-- the superclass of the class that is named before `super`, else of the class around (JLS 15.11.2, 15.12.1)
abbrev pub super_of : Context → List Bound → Option (List Ident) → JType
super_of C s None = super_type C.env (this_class s)
super_of C s (Some n) = super_type C.env (resolve_at C s (spelled_name n))

abbrev pub super_call : Context → List Bound → Option (List Ident) → Identifier → Types → Option MethodId
super_call C s n name arguments = call_in C s name arguments (receiving_type C.env (super_of C s n))

-- the anonymous class that a creation declares, else the class that it names (JLS 15.9.1)
abbrev pub anonymous_number : Context → Creation → Option ℕ
anonymous_number C c = option_and_then (number_of C.types) c.body

abbrev pub anonymous_or : Context → Creation → JType → JType
anonymous_or C c named = option_map_or (λ n. types.Class (numbered_id C n)) (anonymous_number C c) named

abbrev pub anonymous_class : Context → Creation → Option Declared
anonymous_class C c = option_and_then (λ n. declared_at C.env (numbered_id C n)) (anonymous_number C c)

abbrev pub created_class : Context → List Bound → Creation → JType
created_class C s c = created_type C s (anonymous_class C c) (spelled_name c.class)

abbrev pub inner_or_absent : Identifiers → Option TypeId → JType
inner_or_absent spelled None = types.Absent spelled
inner_or_absent spelled (Some t) = types.Class t

-- after a value and a dot, a member class of the value's type (JLS 15.9.1)
abbrev pub inner_created : Env → JType → Creation → JType
inner_created env t c = let spelled = spelled_name c.class in inner_or_absent spelled (inner_class env t (last_name spelled))

-- what a primary expression begins with
abbrev pub first_type : Context → List Bound → FirstLayer → List Types → JType
first_type C s (First-F.Literal l) parts = literal_type C.env l
first_type C s (First-F.This at) parts = this_class s
first_type C s (First-F.Name n) parts = variable_type C.env (classify C s (spelled_name n))
first_type C s (First-F.Parenthesized x) parts = part 0 parts
first_type C s (First-F.ClassLiteral t) parts = class_type C.env
first_type C s First-F.VoidClass parts = class_type C.env
first_type C s (First-F.QualifiedThis n at) parts = resolve_at C s (spelled_name n)
first_type C s (First-F.SuperField n at i) parts = variable_type C.env (selected_field C.env (super_of C s n) i.name)
first_type C s (First-F.Call n arguments) parts = result_of C.env (named_call C s (spelled_name n) (flat_types parts))
first_type C s (First-F.SuperCall n at i arguments) parts = result_of C.env (super_call C s n i.name (flat_types parts))
first_type C s (First-F.New c) parts = anonymous_or C c (created_class C s c)
first_type C s (First-F.NewArray e sizes dims) parts = part 0 parts
first_type C s (First-F.NewArrayOf e dims a) parts = part 0 parts

-- what a selector selects from a value of that type
abbrev pub selector_type : Context → List Bound → JType → SelectorLayer → Types → JType
selector_type C s t (Selector-F.Field i) arguments = variable_type C.env (selected_field C.env t i.name)
selector_type C s t (Selector-F.MemberCall i xs) arguments = result_of C.env (call_in C s i.name arguments (receiving_type C.env t))
selector_type C s t (Selector-F.Index x) arguments = component t
selector_type C s t (Selector-F.QualifiedNew c) arguments = anonymous_or C c (inner_created C.env t c)

-- the selectors, each with the types of its arguments, from left to right
abbrev pub chain_type : Context → List Bound → JType → List (Selector × Types) → JType
chain_type C s t [] = t
chain_type C s t (x ∷ xs) = chain_type C s (selector_type C s t (out-Selector x.0) x.1) xs
