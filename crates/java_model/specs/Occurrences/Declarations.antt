-- The occurrences in declarations: the declared names, supertypes, and references to constructors that no program spells.
use Rattle.std.specs.Prelude.{ℕ, ◌+◌, ◌==◌, ◌&&◌, Bool, true, false, cond, List, [], ◌∷◌, ◌++◌, Option, Some, None, length, drop, position, slice_get, option_map}
use Rattle.std.specs.List.{list_any}
use Rattle.std.specs.Option.{option_map_or, option_and_then}
use Rattle.java_tree.specs.declared.bound.Bound.{Bound}
use Rattle.java_tree.specs.declared.names.Ident.{Ident}
use Rattle.java_tree.specs.declared.occurrence.Access.TheVariants.{NoAccess}
use Rattle.java_tree.specs.declared.occurrence.Binding.{Binding}
use Rattle.java_tree.specs.declared.occurrence.Binding.TheVariants as bindings
use Rattle.java_tree.specs.declared.occurrence.OccKind.TheVariants as occurs
use Rattle.java_tree.specs.declared.occurrence.Occurrence.{Occurrence}
use Rattle.java_tree.specs.declared.occurrence.TypeId.{TypeId}
use Rattle.std.specs.Str.{bytes_eq}
use Rattle.java_tree.specs.declared.outline.OutlineMethod.{OutlineMethod}
use Rattle.java_tree.specs.declared.outline.OutlineType.{OutlineType}
use Rattle.java_tree.specs.declared.token.Span.{Span}
use Rattle.java_tree.specs.declared.types.JType.{JType}
use Rattle.java_tree.specs.declared.unit.Callee.{Callee}
use Rattle.java_tree.specs.declared.unit.Callee.TheVariants as callees
use Rattle.java_tree.specs.declared.unit.Constructor.{Constructor}
use Rattle.java_tree.specs.declared.unit.Explicit.{Explicit}
use Rattle.java_tree.specs.declared.unit.Import.{Import}
use Rattle.java_tree.specs.declared.unit.Member.{Member}
use Rattle.java_tree.specs.declared.unit.Member.TheVariants as members
use Rattle.java_tree.specs.declared.unit.TypeHead.{TypeHead}
use Rattle.java_tree.specs.declared.unit.TypeHead.TheVariants as heads
use Rattle.java_model.specs.Outlines.{spelled_name}
use Rattle.java_model.specs.Names.Lists.{Identifier}
use Rattle.java_model.specs.Names.Environments.{Env, Declared, declared_at, object_name}
use Rattle.java_model.specs.Names.Supertypes.{resolve_in_header}
use Rattle.java_model.specs.Tree.Children.{Numbered}
use Rattle.java_model.specs.Scopes.Contexts.{Context, numbered_id}
use Rattle.java_model.specs.Scopes.TypeNames.{header_kinds, kinds_in_import}
use Rattle.java_model.specs.Scopes.Scoping.{within_body}
use Rattle.java_model.specs.Bindings.Calls.{constructor_in, super_type, this_class}
use Rattle.java_model.specs.Bindings.Chains.{Types, flat_types, last_name}
use Rattle.java_model.specs.Occurrences.References.{Role, as_type, as_import, occurrence, mention, occurrences_in, package_named}
use Rattle.java_model.specs.Occurrences.Expressions.{type_binding, method_binding}

-- the name of a package clause (JLS 7.4)
abbrev pub package_declaration : List Ident → Occurrence
package_declaration = package_named occurs.PackageDecl

abbrev pub import_role : Bool → Role
import_role true = as_import
import_role false = as_type

-- JLS 7.5
abbrev pub in_import : Env → Import → List Occurrence
in_import env i = occurrences_in (import_role i.star) i.name (kinds_in_import env i.star (spelled_name i.name))

-- What a unit declares is found in its environment by where it stands.
abbrev pub is_declared_at : Ident → Identifier → Span → Bool
is_declared_at i name span = bytes_eq i.name name && (i.span.start == span.start) && (i.span.end == span.end)

abbrev pub is_method_at : Ident → ℕ → OutlineMethod → Bool
is_method_at i parameters m = is_declared_at i m.name m.span && (parameters == length m.params)

abbrev pub outlined : Context → ℕ → Option OutlineType
outlined C number = option_map (λ d. d.type) (declared_at C.env (numbered_id C number))

abbrev pub method_of : TypeId → Option ℕ → Binding
method_of t None = bindings.Nothing
method_of t (Some place) = bindings.Method (record { of = t; place = place })

abbrev pub field_of : TypeId → Option ℕ → Binding
field_of t None = bindings.Nothing
field_of t (Some place) = bindings.Field (record { of = t; place = place })

abbrev pub field_place : Ident → OutlineType → Option ℕ
field_place i o = position (λ f. is_declared_at i f.name f.span) o.fields

abbrev pub method_place : Ident → ℕ → OutlineType → Option ℕ
method_place i parameters o = position (is_method_at i parameters) o.methods

-- a constructor has its place after the methods
abbrev pub constructor_place : Ident → ℕ → OutlineType → Option ℕ
constructor_place i parameters o = option_map (λ n. length o.methods + n) (position (is_method_at i parameters) o.constructors)

-- JLS 8.3, 9.3
abbrev pub field_declaration : Context → ℕ → Ident → Occurrence
field_declaration C number i = mention occurs.FieldDecl i (field_of (numbered_id C number) (option_and_then (field_place i) (outlined C number)))

-- JLS 8.4, 9.4
abbrev pub method_declaration : Context → ℕ → Ident → ℕ → Occurrence
method_declaration C number i parameters =
    mention occurs.MethodDecl i (method_of (numbered_id C number) (option_and_then (method_place i parameters) (outlined C number)))

-- JLS 8.8
abbrev pub constructor_declaration : Context → ℕ → Ident → ℕ → Occurrence
constructor_declaration C number i parameters =
    mention occurs.CtorDecl i (method_of (numbered_id C number) (option_and_then (constructor_place i parameters) (outlined C number)))

-- the name after `extends`, if a class spells it
abbrev pub spelled_superclass : TypeHead → Option Identifier
spelled_superclass (heads.Class c) = option_map (λ n. last_name (spelled_name n)) c.extends
spelled_superclass _ = None

-- `super(..)`, spelled or not, by the name of the superclass (JLS 8.8.5)
abbrev pub super_reference : Context → List Bound → Span → Identifier → ℕ → Types → Occurrence
super_reference C s span name count arguments =
    occurrence occurs.CtorRef span name count (method_binding (constructor_in C s (super_type C.env (this_class s)) arguments)) NoAccess

-- A constructor that begins with no explicit invocation invokes that of its superclass without arguments; it counts
-- where the class spells its superclass (JLS 8.8.5, 8.8.7).
abbrev pub implicit_super : Context → List Bound → Span → Option Identifier → List Occurrence
implicit_super C s span None = []
implicit_super C s span (Some name) = super_reference C s span name 0 [] ∷ []

abbrev pub head_of : Context → ℕ → Option TypeHead
head_of C number = option_map (λ t. t.head) (slice_get C.types number)

abbrev pub implicit_in : Context → List Bound → ℕ → Constructor → Option Explicit → List Occurrence
implicit_in C s number c None = implicit_super C s c.name.span (option_and_then spelled_superclass (head_of C number))
implicit_in C s number c (Some e) = []

abbrev pub names_in_member : Context → List Bound → ℕ → Member → List Occurrence
names_in_member C s number (members.Method m) = method_declaration C number m.name (length m.parameters) ∷ []
names_in_member C s number (members.Constructor c) =
    constructor_declaration C number c.name (length c.parameters) ∷ implicit_in C s number c c.explicit
names_in_member C s number _ = []

abbrev pub simple_name : TypeHead → Identifier
simple_name (heads.Class c) = c.name.name
simple_name (heads.Interface i) = i.name.name
simple_name heads.Anonymous = []

-- `this(..)`, and `super(..)` with the name of Object where no superclass is spelled (JLS 8.8.5.1)
abbrev pub superclass_name : Option TypeHead → Identifier
superclass_name head = option_map_or (λ n. n) (option_and_then spelled_superclass head) object_name

abbrev pub names_in_explicit : Context → List Bound → ℕ → ℕ → Callee → List Types → Occurrence
names_in_explicit C s number count (callees.This span) parts =
    occurrence occurs.CtorRef span (option_map_or simple_name (head_of C number) []) count
    (method_binding (constructor_in C s (this_class s) (flat_types parts))) NoAccess
names_in_explicit C s number count (callees.Super None span) parts =
    super_reference C s span (superclass_name (head_of C number)) count (flat_types parts)
names_in_explicit C s number count (callees.Super (Some p) span) parts =
    super_reference C s span (superclass_name (head_of C number)) count (flat_types (drop 1 parts))

-- the name of a type; an anonymous class has none (JLS 8.1, 9.1, 15.9.5)
abbrev pub type_declaration : TypeId → TypeHead → List Occurrence
type_declaration t (heads.Class c) = mention occurs.TypeDecl c.name (bindings.Class t) ∷ []
type_declaration t (heads.Interface i) = mention occurs.TypeDecl i.name (bindings.Class t) ∷ []
type_declaration t heads.Anonymous = []

abbrev pub is_constructor : Member → Bool
is_constructor (members.Constructor c) = true
is_constructor _ = false

-- The default constructor of a class without constructors invokes that of its superclass (JLS 8.8.7).
abbrev pub default_super : Context → List Bound → Numbered → TypeHead → List Occurrence
default_super C s t (heads.Class c) =
    cond (list_any is_constructor t.type.members) []
    (implicit_super C (s ++ within_body C (Some t)) c.name.span (spelled_superclass (heads.Class c)))
default_super C s t _ = []

abbrev pub names_in_declaration : Context → List Bound → Option Numbered → List Occurrence
names_in_declaration C s None = []
names_in_declaration C s (Some t) = type_declaration (numbered_id C t.number) t.type.head ++ default_super C s t t.type.head

abbrev pub super_at_last : List Ident → JType → List Occurrence
super_at_last [] t = []
super_at_last (i ∷ []) t = mention occurs.Super i (type_binding t) ∷ []
super_at_last (i ∷ j ∷ more) t = super_at_last (j ∷ more) t

-- A name in a header means what it means to the look-up of supertypes (JLS 8.1.3, 8.1.4, 9.1.2).
abbrev pub in_supertype : Context → TypeId → List Ident → Option Declared → List Occurrence
in_supertype C t n None = []
in_supertype C t n (Some d) =
    occurrences_in as_type n (header_kinds C.env d t (spelled_name n))
    ++ super_at_last n (resolve_in_header C.env d t (spelled_name n))
