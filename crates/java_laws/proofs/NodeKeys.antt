-- The keys of the occurrences that each node has itself.
use Rattle.std.proofs.Common.{◌≡◌, ℕ, Bool, true, false, cond, List, [], ◌∷◌, ◌++◌, Option, Some, None, map, length, slice_get, refl, sym, subst, inl, inr}
use Rattle.std.specs.Prelude.{option_map}
use Rattle.std.specs.List.{AllByRecursion, zip, list_any}
use Rattle.std.specs.Option.{option_map_or, option_and_then, option_to_list}
use Rattle.java_tree.specs.declared.bound.Bound.{Bound}
use Rattle.java_tree.specs.declared.expr.Creation.{Creation}
use Rattle.java_tree.specs.declared.expr.Expr.{Expr}
use Rattle.java_tree.specs.declared.expr.Expr.TheOpen.{First-F, Selector-F}
use Rattle.java_tree.specs.declared.expr.Selector.{Selector, out-Selector}
use Rattle.java_tree.specs.declared.key.Category.TheVariants as categories
use Rattle.java_tree.specs.declared.key.Key.{Key}
use Rattle.java_tree.specs.declared.names.ElementType.{ElementType}
use Rattle.java_tree.specs.declared.names.ElementType.TheVariants as elements
use Rattle.java_tree.specs.declared.names.Ident.{Ident}
use Rattle.java_tree.specs.declared.occurrence.Access.{Access}
use Rattle.java_tree.specs.declared.occurrence.Access.TheVariants.{Read}
use Rattle.java_tree.specs.declared.occurrence.MethodId.{MethodId}
use Rattle.java_tree.specs.declared.occurrence.OccKind.{OccKind}
use Rattle.java_tree.specs.declared.occurrence.OccKind.TheVariants as occ
use Rattle.java_tree.specs.declared.occurrence.Occurrence.{Occurrence}
use Rattle.java_tree.specs.declared.occurrence.TypeId.{TypeId}
use Rattle.java_tree.specs.declared.token.Span.{Span}
use Rattle.java_tree.specs.declared.types.JType.{JType}
use Rattle.java_tree.specs.declared.types.JType.TheVariants as types
use Rattle.java_tree.specs.declared.types.NameKind.{NameKind}
use Rattle.java_tree.specs.declared.types.NameKind.TheVariants as kinds
use Rattle.java_tree.specs.declared.unit.Callee.{Callee}
use Rattle.java_tree.specs.declared.unit.Callee.TheVariants as callees
use Rattle.java_tree.specs.declared.unit.Constructor.{Constructor}
use Rattle.java_tree.specs.declared.unit.Explicit.{Explicit}
use Rattle.java_tree.specs.declared.unit.Member.{Member}
use Rattle.java_tree.specs.declared.unit.Member.TheVariants as members
use Rattle.java_tree.specs.declared.unit.TypeHead.{TypeHead}
use Rattle.java_tree.specs.declared.unit.TypeHead.TheVariants as heads
use Rattle.java_tree.specs.declared.unit.Unit.{Unit as CompilationUnit}
use Rattle.java_model.specs.Grammar.Forms.{FirstLayer, SelectorLayer}
use Rattle.java_model.specs.Outlines.{spelled_name}
use Rattle.java_model.specs.Names.Lists.{Identifier}
use Rattle.java_model.specs.Names.Environments.{Declared}
use Rattle.java_model.specs.Names.Supertypes.{resolve_in_header}
use Rattle.java_model.specs.Tree.Children.{Numbered}
use Rattle.java_model.specs.Scopes.Contexts.{Context, numbered_id}
use Rattle.java_model.specs.Scopes.NameKinds.{ambiguous_kinds, selected_field, kind_or_nothing}
use Rattle.java_model.specs.Scopes.Scoping.{creation_bound, within_body}
use Rattle.java_model.specs.Scopes.TypeNames.{type_name_kinds, header_kinds, created_kinds}
use Rattle.java_model.specs.Bindings.Calls.{call_in, constructor_in, receiving_type, inner_class}
use Rattle.java_model.specs.Bindings.Chains.{Types, flat_types, but_last, last_name, named_call, super_call, super_of, anonymous_class, created_class, inner_created, selector_type}
use Rattle.java_model.specs.Occurrences.References.{as_type, as_qualifier, as_variable, unbound_last, occurrences_in, mention}
use Rattle.java_model.specs.Occurrences.Expressions.{method_binding, in_type_name, in_element, in_optional_type, type_binding, method_reference, field_reference, super_of_anonymous, is_interface_of, constructor_reference, at_created, in_creation, only_last, in_inner_creation, all_but_last, at_last, in_call, names_in_first, names_in_selector, names_in_chain}
use Rattle.java_model.specs.Occurrences.Declarations.{method_of, field_of, method_declaration, constructor_declaration, spelled_superclass, super_reference, implicit_super, head_of, implicit_in, names_in_member, names_in_explicit, type_declaration, is_constructor, default_super, names_in_declaration, super_at_last, in_supertype}
use Rattle.java_model.specs.Matches.Keys.{counted, refs, references, last_of, implicit_key, default_key, head_keys, declaration_keys, head_at, implicit_at, member_keys, callee_name, element_keys, optional_refs, first_keys, selector_keys, creation_keys}
use Rattle.java_laws.proofs.Lists.{Among, among-left, among-right}
use Rattle.java_laws.specs.Keys.{ref_key, IsOfKind, names_method, names_type, names_field}
use Rattle.java_laws.proofs.NameKeys.{Told, AllKeyed, append-keyed, one-keyed, none-keyed, IdentsKeyed, unbound-keyed, identifier-keyed, name-keyed}

-- these keys are had
abbrev pub Had : (Key → Type 0) → List Key → Type 0
Had Has keys = (key : Key) → Among keys key → Has key

pub idents-keyed : (Has : Key → Type 0) (n : List Ident) → Had Has (refs n) → IdentsKeyed Has n
idents-keyed Has [] h = tt
idents-keyed Has (i ∷ n) h = (h (ref_key i.name) (inl refl), idents-keyed Has n (λ k a. h k (inr a)))

pub left-had : (Has : Key → Type 0) (ks ls : List Key) → Had Has (ks ++ ls) → Had Has ks
left-had Has ks ls h key a = h key (among-left ks ls key a)

pub right-had : (Has : Key → Type 0) (ks ls : List Key) → Had Has (ks ++ ls) → Had Has ls
right-had Has ks ls h key a = h key (among-right ks ls key a)

-- what bindings are made of
bound-method : (kind : OccKind) (name : List ℕ) (m : Option MethodId) → names_method kind ≡ true → IsOfKind kind name (method_binding m)
bound-method kind name None h = tt
bound-method kind name (Some m) h = h

bound-type : (kind : OccKind) (name : List ℕ) (t : JType) → names_type kind ≡ true → IsOfKind kind name (type_binding t)
bound-type kind name (types.Class t) h = h
bound-type kind name (types.Primitive p) h = tt
bound-type kind name types.Void h = tt
bound-type kind name types.Null h = tt
bound-type kind name (types.Absent n) h = tt
bound-type kind name (types.Array e n) h = tt
bound-type kind name types.Unknown h = tt

bound-place : (kind : OccKind) (name : List ℕ) (t : TypeId) (place : Option ℕ) → names_method kind ≡ true → IsOfKind kind name (method_of t place)
bound-place kind name t None h = tt
bound-place kind name t (Some n) h = h

pub bound-field : (kind : OccKind) (name : List ℕ) (t : TypeId) (place : Option ℕ) → names_field kind ≡ true → IsOfKind kind name (field_of t place)
bound-field kind name t None h = tt
bound-field kind name t (Some n) h = h

-- TYPE NAMES
pub type-name-keyed : (Has : Key → Type 0) (C : Context) (s : List Bound) (n : List Ident) → Had Has (refs n) → AllKeyed Has (in_type_name C s n)
type-name-keyed Has C s n h = name-keyed Has as_type n (type_name_kinds C s (spelled_name n)) (idents-keyed Has n h)

pub element-keyed : (Has : Key → Type 0) (C : Context) (s : List Bound) (e : ElementType) → Had Has (element_keys e) → AllKeyed Has (in_element C s e)
element-keyed Has C s (elements.Primitive p) h = tt
element-keyed Has C s (elements.Named n) h = type-name-keyed Has C s n h

optional-keyed : (Has : Key → Type 0) (C : Context) (s : List Bound) (n : Option (List Ident)) → Had Has (optional_refs n)
    → AllKeyed Has (in_optional_type C s n)
optional-keyed Has C s None h = tt
optional-keyed Has C s (Some n) h = type-name-keyed Has C s n h

-- CALLS AND FIELDS
method-keyed : (Has : Key → Type 0) (i : Ident) (xs : List Expr) (m : Option MethodId) → Has (counted categories.MethodRef i.name (length xs))
    → Told Has (method_reference i xs m)
method-keyed Has i xs m h = one-keyed Has (method_reference i xs m) (counted categories.MethodRef i.name (length xs)) (λ e. cc)
    (bound-method occ.MethodRef i.name m refl) refl h

field-keyed : (Has : Key → Type 0) (how : Access) (i : Ident) (k : NameKind) → Had Has (refs (i ∷ [])) → AllKeyed Has (field_reference how i k)
field-keyed Has how i k h =
    let r = h (ref_key i.name) (inl refl) in
    identifier-keyed Has how (unbound_last (as_variable how) i) i k (unbound-keyed Has (as_variable how) i r) r

last-keyed : (Has : Key → Type 0) (n : List Ident) (xs : List Expr) (m : Option MethodId) → Has (counted categories.MethodRef (last_of n) (length xs))
    → AllKeyed Has (at_last n xs m)
last-keyed Has [] xs m h = tt
last-keyed Has (i ∷ []) xs m h = (method-keyed Has i xs m h, tt)
last-keyed Has (i ∷ j ∷ more) xs m h = last-keyed Has (j ∷ more) xs m h

before-keyed : (Has : Key → Type 0) (n : List Ident) → Had Has (references (but_last (spelled_name n))) → IdentsKeyed Has (all_but_last n)
before-keyed Has [] h = tt
before-keyed Has (i ∷ []) h = tt
before-keyed Has (i ∷ j ∷ more) h = (h (ref_key i.name) (inl refl), before-keyed Has (j ∷ more) (λ k a. h k (inr a)))

call-keyed : (Has : Key → Type 0) (C : Context) (s : List Bound) (n : List Ident) (xs : List Expr) (arguments : Types)
    → Had Has (references (but_last (spelled_name n)) ++ counted categories.MethodRef (last_of n) (length xs) ∷ []) → AllKeyed Has (in_call C s n xs arguments)
call-keyed Has C s n xs arguments h =
    let before = references (but_last (spelled_name n)) in
    let key = counted categories.MethodRef (last_of n) (length xs) in
    append-keyed Has (occurrences_in as_qualifier (all_but_last n) (ambiguous_kinds C s (spelled_name (all_but_last n)))) _
    (name-keyed Has as_qualifier (all_but_last n) (ambiguous_kinds C s (spelled_name (all_but_last n)))
    (before-keyed Has n (left-had Has before (key ∷ []) h)))
    (last-keyed Has n xs (named_call C s (spelled_name n) arguments) (right-had Has before (key ∷ []) h key (inl refl)))

-- CREATIONS
super-of-anonymous-keyed : (Has : Key → Type 0) (b : Option ℕ) (i : Ident) (t : JType) → AllKeyed Has (super_of_anonymous b i t)
super-of-anonymous-keyed Has None i t = tt
super-of-anonymous-keyed Has (Some brace) i t = (none-keyed Has (mention occ.Super i (type_binding t)) (λ e. cc) (bound-type occ.Super i.name t refl) refl, tt)

unless-keyed : (Has : Key → Type 0) (b : Bool) (o : Occurrence) → Told Has o → AllKeyed Has (cond b [] (o ∷ []))
unless-keyed Has true o h = tt
unless-keyed Has false o h = (h, tt)

created-keyed : (Has : Key → Type 0) (C : Context) (s : List Bound) (c : Creation) (t : JType) (arguments : Types) (n : List Ident)
    → Has (counted categories.ConstructorRef (last_of n) (length c.arguments)) → AllKeyed Has (at_created C s c t arguments n)
created-keyed Has C s c t arguments [] h = tt
created-keyed Has C s c t arguments (i ∷ []) h =
    let o = constructor_reference i c.arguments (constructor_in C (s ++ creation_bound C c.body) t arguments) in
    append-keyed Has (super_of_anonymous c.body i t) _ (super-of-anonymous-keyed Has c.body i t)
    (unless-keyed Has (is_interface_of C.env t) o
    (one-keyed Has o (counted categories.ConstructorRef i.name (length c.arguments)) (λ e. cc)
    (bound-method occ.CtorRef i.name (constructor_in C (s ++ creation_bound C c.body) t arguments) refl) refl h))
created-keyed Has C s c t arguments (i ∷ j ∷ more) h = created-keyed Has C s c t arguments (j ∷ more) h

creation-refs : (Has : Key → Type 0) (u : CompilationUnit) (c : Creation) → Had Has (creation_keys u c) → Had Has (refs c.class)
creation-refs Has u c h = left-had Has (refs c.class) _ h

creation-count : (Has : Key → Type 0) (u : CompilationUnit) (c : Creation) → Had Has (creation_keys u c)
    → Has (counted categories.ConstructorRef (last_of c.class) (length c.arguments))
creation-count Has u c h = right-had Has (refs c.class) _ h (counted categories.ConstructorRef (last_of c.class) (length c.arguments)) (inl refl)

creation-keyed : (Has : Key → Type 0) (C : Context) (u : CompilationUnit) (s : List Bound) (c : Creation) (arguments : Types) → Had Has (creation_keys u c)
    → AllKeyed Has (in_creation C s c arguments)
creation-keyed Has C u s c arguments h =
    let ks = created_kinds C s (anonymous_class C c) (spelled_name c.class) in
    append-keyed Has (occurrences_in as_type c.class ks) _
    (name-keyed Has as_type c.class ks (idents-keyed Has c.class (creation-refs Has u c h)))
    (created-keyed Has C s c (created_class C s c) arguments c.class (creation-count Has u c h))

only-last-keyed : (Has : Key → Type 0) (n : List Ident) → IdentsKeyed Has n → IdentsKeyed Has (only_last n)
only-last-keyed Has [] h = tt
only-last-keyed Has (i ∷ []) h = h
only-last-keyed Has (i ∷ j ∷ more) h = only-last-keyed Has (j ∷ more) h.1

inner-keyed : (Has : Key → Type 0) (C : Context) (u : CompilationUnit) (s : List Bound) (t : JType) (c : Creation) (arguments : Types)
    → Had Has (creation_keys u c) → AllKeyed Has (in_inner_creation C s t c arguments)
inner-keyed Has C u s t c arguments h =
    let ks = kind_or_nothing kinds.Class (inner_class C.env t (last_name (spelled_name c.class))) ∷ [] in
    append-keyed Has (occurrences_in as_type (only_last c.class) ks) _
    (name-keyed Has as_type (only_last c.class) ks (only-last-keyed Has c.class (idents-keyed Has c.class (creation-refs Has u c h))))
    (created-keyed Has C s c (inner_created C.env t c) arguments c.class (creation-count Has u c h))

-- PRIMARIES. What a creation names stands among the keys of the node of that creation.
abbrev pub CreationHad : (Key → Type 0) → CompilationUnit → FirstLayer → Type 0
CreationHad Has u f = (c : Creation) → f ≡ First-F.New c → Had Has (creation_keys u c)

pub first-keyed : (Has : Key → Type 0) (C : Context) (u : CompilationUnit) (s : List Bound) (how : Access) (f : FirstLayer) (parts : List Types)
    → Had Has (first_keys f) → CreationHad Has u f → AllKeyed Has (names_in_first C s how f parts)
first-keyed Has C u s how (First-F.Literal l) parts h k = tt
first-keyed Has C u s how (First-F.This at) parts h k = tt
first-keyed Has C u s how (First-F.Name n) parts h k = name-keyed Has (as_variable how) n (ambiguous_kinds C s (spelled_name n)) (idents-keyed Has n h)
first-keyed Has C u s how (First-F.Parenthesized x) parts h k = tt
first-keyed Has C u s how (First-F.ClassLiteral t) parts h k = tt
first-keyed Has C u s how First-F.VoidClass parts h k = tt
first-keyed Has C u s how (First-F.QualifiedThis n at) parts h k = type-name-keyed Has C s n h
first-keyed Has C u s how (First-F.SuperField n at i) parts h k =
    append-keyed Has (in_optional_type C s n) _ (optional-keyed Has C s n (left-had Has (optional_refs n) (refs (i ∷ [])) h))
    (field-keyed Has how i (selected_field C.env (super_of C s n) i.name) (right-had Has (optional_refs n) (refs (i ∷ [])) h))
first-keyed Has C u s how (First-F.Call n xs) parts h k = call-keyed Has C s n xs (flat_types parts) h
first-keyed Has C u s how (First-F.SuperCall n at i xs) parts h k =
    let key = counted categories.MethodRef i.name (length xs) in
    append-keyed Has (in_optional_type C s n) _ (optional-keyed Has C s n (left-had Has (optional_refs n) (key ∷ []) h))
    (method-keyed Has i xs (super_call C s n i.name (flat_types parts)) (right-had Has (optional_refs n) (key ∷ []) h key (inl refl)), tt)
first-keyed Has C u s how (First-F.New c) parts h k = creation-keyed Has C u s c (flat_types parts) (k c refl)
first-keyed Has C u s how (First-F.NewArray e sizes dims) parts h k = tt
first-keyed Has C u s how (First-F.NewArrayOf e dims a) parts h k = tt

-- a selector's own keys, and those of a creation in it
pub record SelectorHad (Has : Key → Type 0) (u : CompilationUnit) (x : SelectorLayer) : Type 0 where
  pub own : Had Has (selector_keys x)
  pub inner : (c : Creation) → x ≡ Selector-F.QualifiedNew c → Had Has (creation_keys u c)

pub selector-keyed : (Has : Key → Type 0) (C : Context) (u : CompilationUnit) (s : List Bound) (how : Access) (t : JType) (x : SelectorLayer)
    (arguments : Types)
    → SelectorHad Has u x → AllKeyed Has (names_in_selector C s how t x arguments)
selector-keyed Has C u s how t (Selector-F.Field i) arguments h = field-keyed Has how i (selected_field C.env t i.name) h.own
selector-keyed Has C u s how t (Selector-F.MemberCall i xs) arguments h =
    (method-keyed Has i xs (call_in C s i.name arguments (receiving_type C.env t)) (h.own (counted categories.MethodRef i.name (length xs)) (inl refl)), tt)
selector-keyed Has C u s how t (Selector-F.Index x) arguments h = tt
selector-keyed Has C u s how t (Selector-F.QualifiedNew c) arguments h = inner-keyed Has C u s t c arguments (h.inner c refl)

abbrev pub ChainHad : (Key → Type 0) → CompilationUnit → List (Selector × Types) → Type 0
ChainHad Has u = AllByRecursion (λ x. SelectorHad Has u (out-Selector x.0))

pub chain-keyed : (Has : Key → Type 0) (C : Context) (u : CompilationUnit) (s : List Bound) (how : Access) (t : JType) (xs : List (Selector × Types))
    → ChainHad Has u xs → AllKeyed Has (names_in_chain C s how t xs)
chain-keyed Has C u s how t [] h = tt
chain-keyed Has C u s how t (x ∷ []) h = selector-keyed Has C u s how t (out-Selector x.0) x.1 h.0
chain-keyed Has C u s how t (x ∷ y ∷ more) h =
    append-keyed Has (names_in_selector C s Read t (out-Selector x.0) x.1) _ (selector-keyed Has C u s Read t (out-Selector x.0) x.1 h.0)
    (chain-keyed Has C u s how (selector_type C s t (out-Selector x.0) x.1) (y ∷ more) h.1)

pub zip-had : (Has : Key → Type 0) (u : CompilationUnit) (xs : List Selector) (vs : List Types) → AllByRecursion (λ x. SelectorHad Has u (out-Selector x)) xs
    → ChainHad Has u (zip xs vs)
zip-had Has u [] vs h = tt
zip-had Has u (x ∷ xs) [] h = tt
zip-had Has u (x ∷ xs) (v ∷ vs) h = (h.0, zip-had Has u xs vs h.1)

-- CONSTRUCTORS that no program spells, or by `this` and `super`
implicit-keyed : (Has : Key → Type 0) (C : Context) (s : List Bound) (span : Span) (name : Option Identifier)
    → Had Has (map (λ n. counted categories.ConstructorRef n 0) (option_to_list name)) → AllKeyed Has (implicit_super C s span name)
implicit-keyed Has C s span None h = tt
implicit-keyed Has C s span (Some name) h =
    let key = counted categories.ConstructorRef name 0 in
    (one-keyed Has (super_reference C s span name 0 []) key (λ e. cc) (bound-method occ.CtorRef name _ refl) refl (h key (inl refl)), tt)

head-implicit : (Has : Key → Type 0) (C : Context) (s : List Bound) (span : Span) (head : Option TypeHead) → Had Has (option_map_or implicit_key head [])
    → AllKeyed Has (implicit_super C s span (option_and_then spelled_superclass head))
head-implicit Has C s span None h = tt
head-implicit Has C s span (Some head) h = implicit-keyed Has C s span (spelled_superclass head) h

implicit-in-keyed : (Has : Key → Type 0) (C : Context) (u : CompilationUnit) (s : List Bound) (number : ℕ) (c : Constructor) (e : Option Explicit)
    → C.types ≡ u.types
    → Had Has (option_map_or (λ x. []) e (implicit_at u number)) → AllKeyed Has (implicit_in C s number c e)
implicit-in-keyed Has C u s number c None same h =
    head-implicit Has C s c.name.span (head_of C number)
    (subst (λ ts. Had Has (option_map_or implicit_key (option_map (λ t. t.head) (slice_get ts number)) [])) (sym same) h)
implicit-in-keyed Has C u s number c (Some e) same h = tt

pub member-keyed : (Has : Key → Type 0) (C : Context) (u : CompilationUnit) (s : List Bound) (number : ℕ) (m : Member) → C.types ≡ u.types
    → Had Has (member_keys u number m) → AllKeyed Has (names_in_member C s number m)
member-keyed Has C u s number members.Empty same h = tt
member-keyed Has C u s number (members.Initializer is_static b) same h = tt
member-keyed Has C u s number (members.Type brace) same h = tt
member-keyed Has C u s number (members.Field f) same h = tt
member-keyed Has C u s number (members.Method m) same h = (
  none-keyed Has (method_declaration C number m.name (length m.parameters)) (λ e. cc)
      (bound-place occ.MethodDecl m.name.name (numbered_id C number) _ refl) refl,
  tt,
)
member-keyed Has C u s number (members.Constructor c) same h = (
  none-keyed Has (constructor_declaration C number c.name (length c.parameters)) (λ e. cc)
      (bound-place occ.CtorDecl c.name.name (numbered_id C number) _ refl) refl,
  implicit-in-keyed Has C u s number c c.explicit same (λ k a. h k (inr a)),
)

pub explicit-keyed : (Has : Key → Type 0) (C : Context) (u : CompilationUnit) (s : List Bound) (number n : ℕ) (c : Callee) (parts : List Types)
    → C.types ≡ u.types
    → Has (counted categories.ConstructorRef (callee_name c (head_at u number)) n) → Told Has (names_in_explicit C s number n c parts)
explicit-keyed Has C u s number n c parts same h = explicit-by c
    (subst (λ ts. Has (counted categories.ConstructorRef (callee_name c (option_map (λ t. t.head) (slice_get ts number))) n)) (sym same) h)
  where
    explicit-by : (c : Callee) → Has (counted categories.ConstructorRef (callee_name c (head_of C number)) n)
        → Told Has (names_in_explicit C s number n c parts)
    explicit-by (callees.This span) h = one-keyed Has _ _ (λ e. cc) (bound-method occ.CtorRef _ _ refl) refl h
    explicit-by (callees.Super None span) h = one-keyed Has _ _ (λ e. cc) (bound-method occ.CtorRef _ _ refl) refl h
    explicit-by (callees.Super (Some p) span) h = one-keyed Has _ _ (λ e. cc) (bound-method occ.CtorRef _ _ refl) refl h

type-declaration-keyed : (Has : Key → Type 0) (t : TypeId) (h : TypeHead) → AllKeyed Has (type_declaration t h)
type-declaration-keyed Has t (heads.Class c) = (none-keyed Has _ (λ e. cc) refl refl, tt)
type-declaration-keyed Has t (heads.Interface i) = (none-keyed Has _ (λ e. cc) refl refl, tt)
type-declaration-keyed Has t heads.Anonymous = tt

default-by : (Has : Key → Type 0) (C : Context) (s : List Bound) (span : Span) (name : Option Identifier) (b : Bool)
    → Had Has (cond b [] (map (λ n. counted categories.ConstructorRef n 0) (option_to_list name))) → AllKeyed Has (cond b [] (implicit_super C s span name))
default-by Has C s span name true h = tt
default-by Has C s span name false h = implicit-keyed Has C s span name h

default-keyed : (Has : Key → Type 0) (C : Context) (s : List Bound) (t : Numbered) (head : TypeHead)
    → Had Has (cond (list_any is_constructor t.type.members) [] (implicit_key head)) → AllKeyed Has (default_super C s t head)
default-keyed Has C s t (heads.Class c) h =
    default-by Has C (s ++ within_body C (Some t)) c.name.span (spelled_superclass (heads.Class c)) (list_any is_constructor t.type.members) h
default-keyed Has C s t (heads.Interface i) h = tt
default-keyed Has C s t heads.Anonymous h = tt

pub declaration-keyed : (Has : Key → Type 0) (C : Context) (u : CompilationUnit) (s : List Bound) (t : Option Numbered) → Had Has (declaration_keys u t)
    → AllKeyed Has (names_in_declaration C s t)
declaration-keyed Has C u s None h = tt
declaration-keyed Has C u s (Some t) h =
    append-keyed Has (type_declaration (numbered_id C t.number) t.type.head) _ (type-declaration-keyed Has (numbered_id C t.number) t.type.head)
    (default-keyed Has C s t t.type.head (right-had Has (head_keys u t.number t.type.head) (default_key t.type) h))

super-at-last-keyed : (Has : Key → Type 0) (n : List Ident) (t : JType) → AllKeyed Has (super_at_last n t)
super-at-last-keyed Has [] t = tt
super-at-last-keyed Has (i ∷ []) t = (none-keyed Has _ (λ e. cc) (bound-type occ.Super i.name t refl) refl, tt)
super-at-last-keyed Has (i ∷ j ∷ more) t = super-at-last-keyed Has (j ∷ more) t

pub supertype-keyed : (Has : Key → Type 0) (C : Context) (t : TypeId) (n : List Ident) (d : Option Declared) → Had Has (refs n)
    → AllKeyed Has (in_supertype C t n d)
supertype-keyed Has C t n None h = tt
supertype-keyed Has C t n (Some d) h =
    append-keyed Has (occurrences_in as_type n (header_kinds C.env d t (spelled_name n))) _
    (name-keyed Has as_type n (header_kinds C.env d t (spelled_name n)) (idents-keyed Has n h))
    (super-at-last-keyed Has n (resolve_in_header C.env d t (spelled_name n)))
