-- The occurrences in expressions: names, calls, fields that are selected, creations.
use Rattle.std.specs.Prelude.{ℕ, Bool, false, cond, List, [], ◌∷◌, ◌++◌, Option, Some, None, length}
use Rattle.java_tree.specs.declared.bound.Bound.{Bound}
use Rattle.java_tree.specs.declared.names.ElementType.{ElementType}
use Rattle.java_tree.specs.declared.names.ElementType.TheVariants as elements
use Rattle.java_tree.specs.declared.names.Ident.{Ident}
use Rattle.java_tree.specs.declared.occurrence.Access.{Access}
use Rattle.java_tree.specs.declared.occurrence.Access.TheVariants.{NoAccess, Read}
use Rattle.java_tree.specs.declared.occurrence.Binding.{Binding}
use Rattle.java_tree.specs.declared.occurrence.Binding.TheVariants as bindings
use Rattle.java_tree.specs.declared.occurrence.MethodId.{MethodId}
use Rattle.java_tree.specs.declared.occurrence.OccKind.TheVariants as occurs
use Rattle.java_tree.specs.declared.occurrence.Occurrence.{Occurrence}
use Rattle.java_tree.specs.declared.expr.Creation.{Creation}
use Rattle.java_tree.specs.declared.expr.Expr.{Expr}
use Rattle.java_tree.specs.declared.expr.Expr.TheOpen.{First-F, Selector-F}
use Rattle.java_tree.specs.declared.expr.Selector.{Selector, out-Selector}
use Rattle.java_tree.specs.declared.types.JType.{JType}
use Rattle.java_tree.specs.declared.types.JType.TheVariants as types
use Rattle.java_tree.specs.declared.types.NameKind.{NameKind}
use Rattle.java_tree.specs.declared.types.NameKind.TheVariants as kinds
use Rattle.java_model.specs.Grammar.Forms.{FirstLayer, SelectorLayer}
use Rattle.java_model.specs.Outlines.{spelled_name}
use Rattle.java_model.specs.Names.Environments.{Env}
use Rattle.java_model.specs.Names.Supertypes.{is_interface_type}
use Rattle.java_model.specs.Scopes.Contexts.{Context}
use Rattle.java_model.specs.Scopes.NameKinds.{ambiguous_kinds, selected_field, kind_or_nothing}
use Rattle.java_model.specs.Scopes.TypeNames.{type_name_kinds, created_kinds}
use Rattle.java_model.specs.Scopes.Scoping.{creation_bound}
use Rattle.java_model.specs.Bindings.Calls.{call_in, constructor_in, receiving_type, inner_class}
use Rattle.java_model.specs.Bindings.Chains.{Types, flat_types, named_call, super_call, super_of, anonymous_class, created_class, inner_created, selector_type, last_name}
use Rattle.java_model.specs.Occurrences.References.{as_type, as_qualifier, as_variable, occurrence, mention, unbound_last, identifier_in, occurrences_in}

-- a type name at a place
abbrev pub in_type_name : Context → List Bound → List Ident → List Occurrence
in_type_name C s n = occurrences_in as_type n (type_name_kinds C s (spelled_name n))

abbrev pub in_element : Context → List Bound → ElementType → List Occurrence
in_element C s (elements.Primitive p) = []
in_element C s (elements.Named n) = in_type_name C s n

abbrev pub in_optional_type : Context → List Bound → Option (List Ident) → List Occurrence
in_optional_type C s None = []
in_optional_type C s (Some n) = in_type_name C s n

abbrev pub type_binding : JType → Binding
type_binding (types.Class t) = bindings.Class t
type_binding _ = bindings.Nothing

abbrev pub method_binding : Option MethodId → Binding
method_binding None = bindings.Nothing
method_binding (Some m) = bindings.Method m

-- the name in a call (JLS 15.12)
abbrev pub method_reference : Ident → List Expr → Option MethodId → Occurrence
method_reference i arguments m = occurrence occurs.MethodRef i.span i.name (length arguments) (method_binding m) NoAccess

-- the last identifier of a field access (JLS 15.11)
abbrev pub field_reference : Access → Ident → NameKind → List Occurrence
field_reference how i kind = identifier_in how (unbound_last (as_variable how) i) i kind

-- the class or the interface in an anonymous creation is a supertype (JLS 15.9.5)
abbrev pub super_of_anonymous : Option ℕ → Ident → JType → List Occurrence
super_of_anonymous None i t = []
super_of_anonymous (Some brace) i t = mention occurs.Super i (type_binding t) ∷ []

abbrev pub is_interface_of : Env → JType → Bool
is_interface_of env (types.Class t) = is_interface_type env t
is_interface_of env _ = false

abbrev pub constructor_reference : Ident → List Expr → Option MethodId → Occurrence
constructor_reference i arguments m = occurrence occurs.CtorRef i.span i.name (length arguments) (method_binding m) NoAccess

-- the created class at the last identifier of its name: its constructor, unless it is an interface (JLS 15.9)
abbrev pub at_created : Context → List Bound → Creation → JType → Types → List Ident → List Occurrence
at_created C s c t arguments [] = []
at_created C s c t arguments (i ∷ []) =
    super_of_anonymous c.body i t
    ++ cond (is_interface_of C.env t) [] (constructor_reference i c.arguments (constructor_in C (s ++ creation_bound C c.body) t arguments) ∷ [])
at_created C s c t arguments (i ∷ j ∷ more) = at_created C s c t arguments (j ∷ more)

abbrev pub in_creation : Context → List Bound → Creation → Types → List Occurrence
in_creation C s c arguments =
    occurrences_in as_type c.class (created_kinds C s (anonymous_class C c) (spelled_name c.class))
    ++ at_created C s c (created_class C s c) arguments c.class

abbrev pub only_last : List Ident → List Ident
only_last [] = []
only_last (i ∷ []) = i ∷ []
only_last (i ∷ j ∷ more) = only_last (j ∷ more)

-- after a value of that type
abbrev pub in_inner_creation : Context → List Bound → JType → Creation → Types → List Occurrence
in_inner_creation C s t c arguments =
    occurrences_in as_type (only_last c.class) (kind_or_nothing kinds.Class (inner_class C.env t (last_name (spelled_name c.class))) ∷ [])
    ++ at_created C s c (inner_created C.env t c) arguments c.class

abbrev pub all_but_last : List Ident → List Ident
all_but_last [] = []
all_but_last (i ∷ []) = []
all_but_last (i ∷ j ∷ more) = i ∷ all_but_last (j ∷ more)

abbrev pub at_last : List Ident → List Expr → Option MethodId → List Occurrence
at_last [] arguments m = []
at_last (i ∷ []) arguments m = method_reference i arguments m ∷ []
at_last (i ∷ j ∷ more) arguments m = at_last (j ∷ more) arguments m

-- Before the last dot of a method's name stands an ambiguous name (JLS 6.5.1).
abbrev pub in_call : Context → List Bound → List Ident → List Expr → Types → List Occurrence
in_call C s n arguments types =
    occurrences_in as_qualifier (all_but_last n) (ambiguous_kinds C s (spelled_name (all_but_last n)))
    ++ at_last n arguments (named_call C s (spelled_name n) types)

-- what a primary expression begins with
abbrev pub names_in_first : Context → List Bound → Access → FirstLayer → List Types → List Occurrence
names_in_first C s how (First-F.Name n) parts = occurrences_in (as_variable how) n (ambiguous_kinds C s (spelled_name n))
names_in_first C s how (First-F.QualifiedThis n at) parts = in_type_name C s n
names_in_first C s how (First-F.SuperField n at i) parts = in_optional_type C s n ++ field_reference how i (selected_field C.env (super_of C s n) i.name)
names_in_first C s how (First-F.Call n arguments) parts = in_call C s n arguments (flat_types parts)
names_in_first C s how (First-F.SuperCall n at i arguments) parts =
    in_optional_type C s n ++ method_reference i arguments (super_call C s n i.name (flat_types parts)) ∷ []
names_in_first C s how (First-F.New c) parts = in_creation C s c (flat_types parts)
names_in_first C s how _ parts = []

-- a selector after a value of that type
abbrev pub names_in_selector : Context → List Bound → Access → JType → SelectorLayer → Types → List Occurrence
names_in_selector C s how t (Selector-F.Field i) arguments = field_reference how i (selected_field C.env t i.name)
names_in_selector C s how t (Selector-F.MemberCall i xs) arguments =
    method_reference i xs (call_in C s i.name arguments (receiving_type C.env t)) ∷ []
names_in_selector C s how t (Selector-F.Index x) arguments = []
names_in_selector C s how t (Selector-F.QualifiedNew c) arguments = in_inner_creation C s t c arguments

-- The selectors from left to right: what the last one selects has the access of the whole.
abbrev pub names_in_chain : Context → List Bound → Access → JType → List (Selector × Types) → List Occurrence
names_in_chain C s how t [] = []
names_in_chain C s how t (x ∷ []) = names_in_selector C s how t (out-Selector x.0) x.1
names_in_chain C s how t (x ∷ y ∷ more) =
    names_in_selector C s Read t (out-Selector x.0) x.1
    ++ names_in_chain C s how (selector_type C s t (out-Selector x.0) x.1) (y ∷ more)
