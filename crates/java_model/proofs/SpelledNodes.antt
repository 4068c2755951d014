-- What the occurrences of each node refer to has the name that is spelled there.
use Rattle.std.proofs.Common.{◌≡◌, ℕ, Bool, true, false, cond, List, [], ◌∷◌, ◌++◌, Option, Some, None, refl, length, drop}
use Rattle.std.specs.List.{AllByRecursion, zip, list_any}
use Rattle.java_tree.specs.declared.bound.Bound.{Bound}
use Rattle.java_tree.specs.declared.names.Ident.{Ident}
use Rattle.java_tree.specs.declared.occurrence.Access.{Access}
use Rattle.java_tree.specs.declared.occurrence.Access.TheVariants.{Read}
use Rattle.java_tree.specs.declared.occurrence.TypeId.{TypeId}
use Rattle.java_tree.specs.declared.expr.Expr.{Expr}
use Rattle.java_tree.specs.declared.types.JType.{JType}
use Rattle.java_model.specs.Outlines.{spelled_name}
use Rattle.java_model.specs.Scopes.TypeNames.{header_kinds, created_kinds, kinds_in_import}
use Rattle.java_model.specs.Bindings.Chains.{Types, last_name, selector_type, flat_types, part, named_call, super_call, super_of, anonymous_class, created_class, inner_created, but_last, type_before, inner_or_absent}
use Rattle.java_model.specs.Occurrences.Expressions.{in_optional_type, only_last, names_in_selector, names_in_chain, in_element, field_reference, in_creation, in_inner_creation, all_but_last, in_call, names_in_first}
use Rattle.java_model.specs.Names.Lists.{Identifier, Identifiers}
use Rattle.java_model.specs.Names.Environments.{Env, Declared, declared_at}
use Rattle.java_model.specs.Scopes.Contexts.{Context, numbered_id}
use Rattle.java_model.specs.Scopes.Scoping.{within_body}
use Rattle.java_model.specs.Bindings.Calls.{call_in, receiving_type, inner_class}
use Rattle.java_model.specs.Occurrences.References.{as_type, occurrences_in, as_qualifier, as_variable, unbound_last}
use Rattle.java_model.specs.Occurrences.Laws.{Called, IsNamed}
use Rattle.java_model.specs.Occurrences.Declarations.{import_role, implicit_super, implicit_in, names_in_member, names_in_explicit, type_declaration, is_constructor, default_super, names_in_declaration, in_supertype, head_of, spelled_superclass}
use Rattle.std.proofs.lemmas.Option.{none-some}
use Rattle.java_tree.specs.declared.types.JType.TheVariants as types
use Rattle.java_tree.specs.declared.types.NameKind.{NameKind}
use Rattle.java_tree.specs.declared.types.NameKind.TheVariants as kinds
use Rattle.java_tree.specs.declared.expr.Creation.{Creation}
use Rattle.java_model.proofs.KindLaws.{KindNamed, only-of, ambiguous-named, selected-named, header-named, in-import-named, created-kinds-named, created-called, in-header-called}
use Rattle.std.specs.Option.{option_and_then}
use Rattle.java_tree.specs.declared.names.ElementType.{ElementType}
use Rattle.java_tree.specs.declared.names.ElementType.TheVariants as elements
use Rattle.java_tree.specs.declared.token.Span.{Span}
use Rattle.java_model.specs.Tree.Nodes.{Node}
use Rattle.java_model.specs.Tree.Nodes as nodes
use Rattle.java_model.specs.Occurrences.Occurrences.{node_names}
use Rattle.java_tree.specs.declared.expr.First.{out-First}
use Rattle.java_tree.specs.declared.expr.Selector.{Selector, out-Selector}
use Rattle.java_tree.specs.declared.unit.Callee.{Callee}
use Rattle.java_tree.specs.declared.unit.Callee.TheVariants as callees
use Rattle.java_tree.specs.declared.unit.Constructor.{Constructor}
use Rattle.java_tree.specs.declared.unit.Explicit.{Explicit}
use Rattle.java_tree.specs.declared.unit.Member.{Member}
use Rattle.java_tree.specs.declared.unit.Member.TheVariants as members
use Rattle.java_tree.specs.declared.unit.TypeHead.{TypeHead}
use Rattle.java_tree.specs.declared.unit.TypeHead.TheVariants as heads
use Rattle.java_model.specs.Tree.Children.{Numbered, numbered}
use Rattle.java_tree.specs.declared.expr.Expr.TheOpen.{First-F, Selector-F}
use Rattle.java_model.specs.Grammar.Forms.{FirstLayer, SelectorLayer}
use Rattle.java_model.specs.Scopes.NameKinds.{ambiguous_kinds, selected_field, kind_or_nothing}
use Rattle.java_model.specs.Names.MemberTypes.{member_types}
use Rattle.java_model.specs.Names.Supertypes.{resolve_in_header}
use Rattle.java_model.proofs.Names.MemberTypeLaws.{member_types_named}
use Rattle.java_model.proofs.SpelledLaws.{append-named, name-named, only-named, call-named, method-named, last-call-named, last-super-named, created-named, type-name-refers, optional-named, identifier-named}

field-named : (env : Env) (how : Access) (i : Ident) (k : NameKind) → KindNamed env i.name k → AllByRecursion (IsNamed env) (field_reference how i k)
field-named env how i k h = identifier-named env how (unbound_last (as_variable how) i) i k tt h

inner-called : (env : Env) (t : JType) (name : Identifier) (m : TypeId) → inner_class env t name ≡ Some m → Called env name m
inner-called env (types.Class u) name m e = member_types_named env u name m (only-of (member_types env u name) m e)
inner-called env (types.Primitive p) name m e = absurd (none-some m e)
inner-called env types.Void name m e = absurd (none-some m e)
inner-called env types.Null name m e = absurd (none-some m e)
inner-called env (types.Absent n) name m e = absurd (none-some m e)
inner-called env (types.Array a n) name m e = absurd (none-some m e)
inner-called env types.Unknown name m e = absurd (none-some m e)

inner-kind : (env : Env) (name : Identifier) (o : Option TypeId) → ((m : TypeId) → o ≡ Some m → Called env name m) → KindNamed env name (kind_or_nothing kinds.Class o)
inner-kind env name None h = tt
inner-kind env name (Some m) h = h m refl

inner-type : (env : Env) (spelled : Identifiers) (name : Identifier) (o : Option TypeId) → ((m : TypeId) → o ≡ Some m → Called env name m)
    → (m : TypeId) → inner_or_absent spelled o ≡ types.Class m → Called env name m
inner-type env spelled name None h m e = absurd cc
inner-type env spelled name (Some k) h m e = h m (class-same k m e)
  where
    class-same : (k m : TypeId) → types.Class k ≡ types.Class m → Some k ≡ Some m
    class-same k m e = cc

inner-named : (C : Context) (s : List Bound) (t : JType) (c : Creation) (arguments : Types) → AllByRecursion (IsNamed C.env) (in_inner_creation C s t c arguments)
inner-named C s t c arguments =
    let name = last_name (spelled_name c.class) in
    append-named C.env (occurrences_in as_type (only_last c.class) (kind_or_nothing kinds.Class (inner_class C.env t name) ∷ [])) _
    (only-named C.env c.class (kind_or_nothing kinds.Class (inner_class C.env t name)) (inner-kind C.env name (inner_class C.env t name) (inner-called C.env t name)))
    (created-named C s c (inner_created C.env t c) arguments c.class
    (inner-type C.env (spelled_name c.class) name (inner_class C.env t name) (inner-called C.env t name)))

creation-named : (C : Context) (s : List Bound) (c : Creation) (arguments : Types) → AllByRecursion (IsNamed C.env) (in_creation C s c arguments)
creation-named C s c arguments =
    let kinds = created_kinds C s (anonymous_class C c) (spelled_name c.class) in
    append-named C.env (occurrences_in as_type c.class kinds) _
    (name-named C.env as_type c.class kinds (created-kinds-named C s (anonymous_class C c) (spelled_name c.class)))
    (created-named C s c (created_class C s c) arguments c.class (λ m e. created-called C s (anonymous_class C c) (spelled_name c.class) m e))

named-call-named : (C : Context) (s : List Bound) (n : List Ident) (xs : List Expr) (arguments : Types) → AllByRecursion (IsNamed C.env) (in_call C s n xs arguments)
named-call-named C s n xs arguments =
    append-named C.env (occurrences_in as_qualifier (all_but_last n) (ambiguous_kinds C s (spelled_name (all_but_last n)))) _
    (name-named C.env as_qualifier (all_but_last n) (ambiguous_kinds C s (spelled_name (all_but_last n))) (ambiguous-named C s (spelled_name (all_but_last n))))
    (last-call-named C.env n xs (named_call C s (spelled_name n) arguments)
    (call-named C s (last_name (spelled_name n)) arguments (type_before C s (but_last (spelled_name n)) (last_name (spelled_name n)))))

first-named : (C : Context) (s : List Bound) (how : Access) (f : FirstLayer) (parts : List Types) → AllByRecursion (IsNamed C.env) (names_in_first C s how f parts)
first-named C s how (First-F.Literal l) parts = tt
first-named C s how (First-F.This at) parts = tt
first-named C s how (First-F.Name n) parts = name-named C.env (as_variable how) n (ambiguous_kinds C s (spelled_name n)) (ambiguous-named C s (spelled_name n))
first-named C s how (First-F.Parenthesized x) parts = tt
first-named C s how (First-F.ClassLiteral type) parts = tt
first-named C s how First-F.VoidClass parts = tt
first-named C s how (First-F.QualifiedThis n at) parts = type-name-refers C s n
first-named C s how (First-F.SuperField n at i) parts =
    append-named C.env (in_optional_type C s n) _ (optional-named C s n)
    (field-named C.env how i (selected_field C.env (super_of C s n) i.name) (selected-named C.env (super_of C s n) i.name))
first-named C s how (First-F.Call n xs) parts = named-call-named C s n xs (flat_types parts)
first-named C s how (First-F.SuperCall n at i xs) parts =
    append-named C.env (in_optional_type C s n) _ (optional-named C s n)
    (method-named C.env i xs (super_call C s n i.name (flat_types parts)) (call-named C s i.name (flat_types parts) (receiving_type C.env (super_of C s n))), tt)
first-named C s how (First-F.New c) parts = creation-named C s c (flat_types parts)
first-named C s how (First-F.NewArray e sizes dims) parts = tt
first-named C s how (First-F.NewArrayOf e dims a) parts = tt

selector-named : (C : Context) (s : List Bound) (how : Access) (u : JType) (x : SelectorLayer) (arguments : Types) → AllByRecursion (IsNamed C.env) (names_in_selector C s how u x arguments)
selector-named C s how u (Selector-F.Field i) arguments = field-named C.env how i (selected_field C.env u i.name) (selected-named C.env u i.name)
selector-named C s how u (Selector-F.MemberCall i xs) arguments =
    (method-named C.env i xs (call_in C s i.name arguments (receiving_type C.env u)) (call-named C s i.name arguments (receiving_type C.env u)), tt)
selector-named C s how u (Selector-F.Index x) arguments = tt
selector-named C s how u (Selector-F.QualifiedNew c) arguments = inner-named C s u c arguments

chain-named : (C : Context) (s : List Bound) (how : Access) (u : JType) (xs : List (Selector × Types)) → AllByRecursion (IsNamed C.env) (names_in_chain C s how u xs)
chain-named C s how u [] = tt
chain-named C s how u (x ∷ []) = selector-named C s how u (out-Selector x.0) x.1
chain-named C s how u (x ∷ y ∷ more) =
    append-named C.env (names_in_selector C s Read u (out-Selector x.0) x.1) _ (selector-named C s Read u (out-Selector x.0) x.1)
    (chain-named C s how (selector_type C s u (out-Selector x.0) x.1) (y ∷ more))

-- what isn't spelled as a reference refers to constructors alone
implicit-named : (C : Context) (s : List Bound) (span : Span) (name : Option Identifier) → AllByRecursion (IsNamed C.env) (implicit_super C s span name)
implicit-named C s span None = tt
implicit-named C s span (Some name) = (tt, tt)

implicit-in-named : (C : Context) (s : List Bound) (number : ℕ) (c : Constructor) (e : Option Explicit) → AllByRecursion (IsNamed C.env) (implicit_in C s number c e)
implicit-in-named C s number c None = implicit-named C s c.name.span (option_and_then spelled_superclass (head_of C number))
implicit-in-named C s number c (Some e) = tt

member-named : (C : Context) (s : List Bound) (number : ℕ) (m : Member) → AllByRecursion (IsNamed C.env) (names_in_member C s number m)
member-named C s number members.Empty = tt
member-named C s number (members.Initializer is_static b) = tt
member-named C s number (members.Type brace) = tt
member-named C s number (members.Field f) = tt
member-named C s number (members.Method m) = (tt, tt)
member-named C s number (members.Constructor c) = (tt, implicit-in-named C s number c c.explicit)

explicit-named : (C : Context) (s : List Bound) (number n : ℕ) (c : Callee) (parts : List Types) → IsNamed C.env (names_in_explicit C s number n c parts)
explicit-named C s number n (callees.This span) parts = tt
explicit-named C s number n (callees.Super None span) parts = tt
explicit-named C s number n (callees.Super (Some p) span) parts = tt

type-named : (env : Env) (t : TypeId) (h : TypeHead) → AllByRecursion (IsNamed env) (type_declaration t h)
type-named env t (heads.Class c) = (tt, tt)
type-named env t (heads.Interface i) = (tt, tt)
type-named env t heads.Anonymous = tt

undeclared-named : (C : Context) (s : List Bound) (b : Bool) (span : Span) (name : Option Identifier)
    → AllByRecursion (IsNamed C.env) (cond b [] (implicit_super C s span name))
undeclared-named C s true span name = tt
undeclared-named C s false span name = implicit-named C s span name

default-named : (C : Context) (s : List Bound) (t : Numbered) (h : TypeHead) → AllByRecursion (IsNamed C.env) (default_super C s t h)
default-named C s t (heads.Class c) =
    undeclared-named C (s ++ within_body C (Some t)) (list_any is_constructor t.type.members) c.name.span (spelled_superclass (heads.Class c))
default-named C s t (heads.Interface i) = tt
default-named C s t heads.Anonymous = tt

declaration-named : (C : Context) (s : List Bound) (t : Option Numbered) → AllByRecursion (IsNamed C.env) (names_in_declaration C s t)
declaration-named C s None = tt
declaration-named C s (Some t) =
    append-named C.env (type_declaration (numbered_id C t.number) t.type.head) _ (type-named C.env (numbered_id C t.number) t.type.head)
    (default-named C s t t.type.head)

supertype-named : (C : Context) (t : TypeId) (n : List Ident) (d : Option Declared) → AllByRecursion (IsNamed C.env) (in_supertype C t n d)
supertype-named C t n None = tt
supertype-named C t n (Some d) =
    append-named C.env (occurrences_in as_type n (header_kinds C.env d t (spelled_name n))) _
    (name-named C.env as_type n (header_kinds C.env d t (spelled_name n)) (header-named C.env d t (spelled_name n)))
    (last-super-named C.env n (resolve_in_header C.env d t (spelled_name n)) (λ m e. in-header-called C.env d t (spelled_name n) m e))

element-named : (C : Context) (s : List Bound) (e : ElementType) → AllByRecursion (IsNamed C.env) (in_element C s e)
element-named C s (elements.Primitive p) = tt
element-named C s (elements.Named n) = type-name-refers C s n

pub node-named : (C : Context) (s : List Bound) (n : Node) (parts : List Types) → AllByRecursion (IsNamed C.env) (node_names C s n parts)
node-named C s (nodes.unit u) parts = tt
node-named C s (nodes.package_clause n) parts = (tt, tt)
node-named C s (nodes.imported i) parts = name-named C.env (import_role i.star) i.name (kinds_in_import C.env i.star (spelled_name i.name)) (in-import-named C.env i.star (spelled_name i.name))
node-named C s (nodes.declaration brace) parts = declaration-named C s (numbered C.types brace)
node-named C s (nodes.supertype number n) parts = supertype-named C (numbered_id C number) n (declared_at C.env (numbered_id C number))
node-named C s (nodes.body brace) parts = tt
node-named C s (nodes.member number m) parts = member-named C s number m
node-named C s (nodes.field number v) parts = (tt, tt)
node-named C s (nodes.variable t v) parts = tt
node-named C s (nodes.parameter p) parts = tt
node-named C s (nodes.type_use e dims) parts = element-named C s e
node-named C s (nodes.explicit number e) parts = (explicit-named C s number (length e.arguments) e.callee parts, tt)
node-named C s (nodes.block b) parts = tt
node-named C s (nodes.statement x) parts = tt
node-named C s (nodes.locals l) parts = tt
node-named C s (nodes.arm a) parts = tt
node-named C s (nodes.group g) parts = tt
node-named C s (nodes.catch_clause c) parts = tt
node-named C s (nodes.expression how x) parts = tt
node-named C s (nodes.primary how p) parts = chain-named C s how (part 0 parts) (zip p.selectors (drop 1 parts))
node-named C s (nodes.first how f) parts = first-named C s how (out-First f) parts
node-named C s (nodes.selector x) parts = tt
node-named C s (nodes.creation c) parts = tt
node-named C s (nodes.array a) parts = tt
