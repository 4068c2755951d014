-- What the occurrences of each node are bound to has as many parameters as there are arguments.
use Rattle.std.proofs.Common.{◌≡◌, ℕ, Bool, true, false, cond, List, [], ◌∷◌, ◌++◌, Option, Some, None, length, map, drop, refl, ap, sym, subst, ◌∙◌}
use Rattle.std.specs.List.{AllByRecursion, zip, list_any}
use Rattle.std.specs.Option.{option_map_or, option_and_then}
use Rattle.java_tree.specs.declared.bound.Bound.{Bound}
use Rattle.java_tree.specs.declared.names.ElementType.{ElementType}
use Rattle.java_tree.specs.declared.names.ElementType.TheVariants as elements
use Rattle.java_tree.specs.declared.names.Ident.{Ident}
use Rattle.java_tree.specs.declared.occurrence.Access.{Access}
use Rattle.java_tree.specs.declared.occurrence.Access.TheVariants.{NoAccess, Read}
use Rattle.java_tree.specs.declared.occurrence.Binding.TheVariants as bindings
use Rattle.java_tree.specs.declared.occurrence.OccKind.TheVariants as occurs
use Rattle.java_tree.specs.declared.occurrence.TypeId.{TypeId}
use Rattle.java_tree.specs.declared.expr.Expr.{Expr}
use Rattle.java_tree.specs.declared.token.Span.{Span}
use Rattle.java_tree.specs.declared.types.JType.{JType}
use Rattle.java_model.specs.Outlines.{spelled_name}
use Rattle.java_model.specs.Scopes.TypeNames.{type_name_kinds}
use Rattle.java_model.specs.Bindings.Chains.{selector_type}
use Rattle.java_model.specs.Occurrences.Expressions.{type_binding, names_in_selector, names_in_chain}
use Rattle.java_model.specs.Names.Lists.{Identifier}
use Rattle.java_model.specs.Names.Environments.{Env}
use Rattle.java_model.specs.Places.{HaveValues}
use Rattle.java_model.specs.Tree.Nodes.{Node}
use Rattle.java_model.specs.Tree.Nodes as nodes
use Rattle.java_model.specs.Tree.InExpressions.{reads}
use Rattle.java_model.specs.Scopes.Contexts.{Context}
use Rattle.java_model.specs.Scopes.Scoping.{Spot, spots}
use Rattle.java_model.specs.Bindings.Calls.{constructor_in}
use Rattle.java_model.specs.Bindings.Chains.{Types, flat_types}
use Rattle.java_model.specs.Occurrences.References.{mention, as_type, occurrences_in}
use Rattle.java_model.specs.Occurrences.Occurrences.{java_rules, node_names}
use Rattle.java_model.specs.Occurrences.Laws.{IsCounted}
use Rattle.java_model.proofs.Places.{taken}
use Rattle.java_tree.specs.declared.expr.First.{out-First}
use Rattle.java_tree.specs.declared.expr.Selector.{Selector, out-Selector}
use Rattle.java_tree.specs.declared.unit.Callee.{Callee}
use Rattle.java_tree.specs.declared.unit.Callee.TheVariants as callees
use Rattle.java_tree.specs.declared.unit.Constructor.{Constructor}
use Rattle.java_tree.specs.declared.unit.Explicit.{Explicit}
use Rattle.java_tree.specs.declared.unit.Member.{Member}
use Rattle.java_tree.specs.declared.unit.Member.TheVariants as members
use Rattle.java_tree.specs.declared.unit.TypeHead.{TypeHead}
use Rattle.java_tree.specs.declared.unit.TypeHead.TheVariants as heads
use Rattle.java_model.specs.Names.Environments.{Declared, declared_at}
use Rattle.java_model.specs.Tree.InExpressions.{selected}
use Rattle.java_model.specs.Tree.Children.{Numbered, numbered, in_callee}
use Rattle.java_model.specs.Scopes.Contexts.{numbered_id}
use Rattle.java_model.specs.Scopes.TypeNames.{header_kinds, kinds_in_import}
use Rattle.java_model.specs.Scopes.Scoping.{inside, leaves, within_body}
use Rattle.java_model.specs.Bindings.Calls.{super_type, this_class}
use Rattle.java_model.specs.Bindings.Chains.{part, sole}
use Rattle.java_model.specs.Bindings.Values.{node_types}
use Rattle.java_model.specs.Occurrences.Expressions.{in_element}
use Rattle.java_model.specs.Occurrences.Declarations.{package_declaration, import_role, field_declaration, method_declaration, constructor_declaration, super_reference, implicit_super, implicit_in, names_in_member, names_in_explicit, type_declaration, is_constructor, default_super, names_in_declaration, super_at_last, in_supertype, head_of, simple_name, superclass_name, spelled_superclass}
use Rattle.java_model.proofs.CallLaws.{counted, not-a-call, both-counted, name-counted, constructor-fits, only-arguments, first-counted, selector-counted}

chain-more : (C : Context) (s : List Bound) (how : Access) (u : JType) (x : Selector) (v : Types) (more : List (Selector × Types))
    → ((h : Access) → AllByRecursion (IsCounted C.env) (names_in_selector C s h u (out-Selector x) v))
    → ((t : JType) → AllByRecursion (IsCounted C.env) (names_in_chain C s how t more))
    → AllByRecursion (IsCounted C.env) (names_in_chain C s how u ((x, v) ∷ more))
chain-more C s how u x v [] h k = h how
chain-more C s how u x v (y ∷ more) h k =
    both-counted C.env (names_in_selector C s Read u (out-Selector x) v) _ (h Read) (k (selector_type C s u (out-Selector x) v))

chain-counted : (C : Context) (s t : List Bound) (how : Access) (u : JType) (xs : List Selector) (vs : List Types)
    → HaveValues (java_rules C) (spots C t (map nodes.selector xs)) vs → AllByRecursion (IsCounted C.env) (names_in_chain C s how u (zip xs vs))
chain-counted C s t how u [] vs h = tt
chain-counted C s t how u (x ∷ xs) vs h =
    let k = taken (java_rules C) h in
    subst (λ ws. AllByRecursion (IsCounted C.env) (names_in_chain C s how u (zip (x ∷ xs) ws))) k.4
    (chain-more C s how u x (flat_types k.0) (zip xs k.1)
    (λ how'. selector-counted C s (t ++ []) how' u (out-Selector x) k.0 k.2)
    (λ u'. chain-counted C s (t ++ []) how u' xs k.1 k.3))

primary-counted : (C : Context) (s t : List Bound) (how : Access) (f : Node) (xs : List Selector) (vs : List Types)
    → HaveValues (java_rules C) (spots C t (f ∷ map nodes.selector xs)) vs
    → AllByRecursion (IsCounted C.env) (names_in_chain C s how (part 0 vs) (zip xs (drop 1 vs)))
primary-counted C s t how f xs vs h =
    let k = taken (java_rules C) h in
    subst (λ ws. AllByRecursion (IsCounted C.env) (names_in_chain C s how (part 0 ws) (zip xs (drop 1 ws)))) k.4
    (chain-counted C s (t ++ leaves C t f) how (sole (node_types C t f k.0)) xs k.1 k.3)

super-reference-counted : (C : Context) (s : List Bound) (span : Span) (name : Identifier) (n : ℕ) (arguments : Types) → length arguments ≡ n
    → IsCounted C.env (super_reference C s span name n arguments)
super-reference-counted C s span name n arguments e =
    counted C.env occurs.CtorRef span name n (length arguments) (constructor_in C s (super_type C.env (this_class s)) arguments) NoAccess
    (constructor-fits C s (super_type C.env (this_class s)) arguments) e

explicit-counted : (C : Context) (s t : List Bound) (number : ℕ) (c : Callee) (xs : List Expr) (parts : List Types)
    → HaveValues (java_rules C) (spots C t (in_callee c ++ map reads xs)) parts → IsCounted C.env (names_in_explicit C s number (length xs) c parts)
explicit-counted C s t number (callees.This span) xs parts h =
    counted C.env occurs.CtorRef span (option_map_or simple_name (head_of C number) []) (length xs) (length (flat_types parts)) (constructor_in C s (this_class s) (flat_types parts)) NoAccess
    (constructor-fits C s (this_class s) (flat_types parts)) (only-arguments C t xs parts h)
explicit-counted C s t number (callees.Super None span) xs parts h =
    super-reference-counted C s span (superclass_name (head_of C number)) (length xs) (flat_types parts) (only-arguments C t xs parts h)
explicit-counted C s t number (callees.Super (Some p) span) xs parts h =
    let k = taken (java_rules C) h in
    super-reference-counted C s span (superclass_name (head_of C number)) (length xs) (flat_types (drop 1 parts))
    (ap (λ ws. length (flat_types (drop 1 ws))) (sym k.4) ∙ only-arguments C (t ++ []) xs k.1 k.3)

implicit-counted : (C : Context) (s : List Bound) (span : Span) (name : Option Identifier) → AllByRecursion (IsCounted C.env) (implicit_super C s span name)
implicit-counted C s span None = tt
implicit-counted C s span (Some name) = (super-reference-counted C s span name 0 [] refl, tt)

implicit-in-counted : (C : Context) (s : List Bound) (number : ℕ) (c : Constructor) (e : Option Explicit)
    → AllByRecursion (IsCounted C.env) (implicit_in C s number c e)
implicit-in-counted C s number c None = implicit-counted C s c.name.span (option_and_then spelled_superclass (head_of C number))
implicit-in-counted C s number c (Some e) = tt

member-counted : (C : Context) (s : List Bound) (number : ℕ) (m : Member) → AllByRecursion (IsCounted C.env) (names_in_member C s number m)
member-counted C s number members.Empty = tt
member-counted C s number (members.Initializer is_static b) = tt
member-counted C s number (members.Type brace) = tt
member-counted C s number (members.Field f) = tt
member-counted C s number (members.Method m) = (not-a-call C.env (method_declaration C number m.name (length m.parameters)) refl, tt)
member-counted C s number (members.Constructor c) =
    (not-a-call C.env (constructor_declaration C number c.name (length c.parameters)) refl, implicit-in-counted C s number c c.explicit)

type-counted : (env : Env) (t : TypeId) (h : TypeHead) → AllByRecursion (IsCounted env) (type_declaration t h)
type-counted env t (heads.Class c) = (not-a-call env (mention occurs.TypeDecl c.name (bindings.Class t)) refl, tt)
type-counted env t (heads.Interface i) = (not-a-call env (mention occurs.TypeDecl i.name (bindings.Class t)) refl, tt)
type-counted env t heads.Anonymous = tt

unless-declared : (C : Context) (s : List Bound) (b : Bool) (span : Span) (name : Option Identifier)
    → AllByRecursion (IsCounted C.env) (cond b [] (implicit_super C s span name))
unless-declared C s true span name = tt
unless-declared C s false span name = implicit-counted C s span name

default-counted : (C : Context) (s : List Bound) (t : Numbered) (h : TypeHead) → AllByRecursion (IsCounted C.env) (default_super C s t h)
default-counted C s t (heads.Class c) = unless-declared C (s ++ within_body C (Some t)) (list_any is_constructor t.type.members) c.name.span (spelled_superclass (heads.Class c))
default-counted C s t (heads.Interface i) = tt
default-counted C s t heads.Anonymous = tt

declaration-counted : (C : Context) (s : List Bound) (t : Option Numbered) → AllByRecursion (IsCounted C.env) (names_in_declaration C s t)
declaration-counted C s None = tt
declaration-counted C s (Some t) =
    both-counted C.env (type_declaration (numbered_id C t.number) t.type.head) _ (type-counted C.env (numbered_id C t.number) t.type.head)
    (default-counted C s t t.type.head)

last-super-counted : (env : Env) (n : List Ident) (t : JType) → AllByRecursion (IsCounted env) (super_at_last n t)
last-super-counted env [] t = tt
last-super-counted env (i ∷ []) t = (not-a-call env (mention occurs.Super i (type_binding t)) refl, tt)
last-super-counted env (i ∷ j ∷ more) t = last-super-counted env (j ∷ more) t

supertype-counted : (C : Context) (t : TypeId) (n : List Ident) (d : Option Declared) → AllByRecursion (IsCounted C.env) (in_supertype C t n d)
supertype-counted C t n None = tt
supertype-counted C t n (Some d) =
    both-counted C.env (occurrences_in as_type n (header_kinds C.env d t (spelled_name n))) _
    (name-counted C.env as_type n (header_kinds C.env d t (spelled_name n))) (last-super-counted C.env n _)

element-counted : (C : Context) (s : List Bound) (e : ElementType) → AllByRecursion (IsCounted C.env) (in_element C s e)
element-counted C s (elements.Primitive p) = tt
element-counted C s (elements.Named n) = name-counted C.env as_type n (type_name_kinds C s (spelled_name n))

node-counted : (C : Context) (s : List Bound) (n : Node) (parts : List Types)
    → HaveValues (java_rules C) (inside C (record { scope = s; node = n })) parts → AllByRecursion (IsCounted C.env) (node_names C s n parts)
node-counted C s (nodes.unit u) parts h = tt
node-counted C s (nodes.package_clause n) parts h = (not-a-call C.env (package_declaration n) refl, tt)
node-counted C s (nodes.imported i) parts h = name-counted C.env (import_role i.star) i.name (kinds_in_import C.env i.star (spelled_name i.name))
node-counted C s (nodes.declaration brace) parts h = declaration-counted C s (numbered C.types brace)
node-counted C s (nodes.supertype number n) parts h = supertype-counted C (numbered_id C number) n (declared_at C.env (numbered_id C number))
node-counted C s (nodes.body brace) parts h = tt
node-counted C s (nodes.member number m) parts h = member-counted C s number m
node-counted C s (nodes.field number v) parts h = (not-a-call C.env (field_declaration C number v.name) refl, tt)
node-counted C s (nodes.variable t v) parts h = tt
node-counted C s (nodes.parameter p) parts h = tt
node-counted C s (nodes.type_use e dims) parts h = element-counted C s e
node-counted C s (nodes.explicit number e) parts h = (explicit-counted C s (s ++ []) number e.callee e.arguments parts h, tt)
node-counted C s (nodes.block b) parts h = tt
node-counted C s (nodes.statement x) parts h = tt
node-counted C s (nodes.locals l) parts h = tt
node-counted C s (nodes.arm a) parts h = tt
node-counted C s (nodes.group g) parts h = tt
node-counted C s (nodes.catch_clause c) parts h = tt
node-counted C s (nodes.expression how x) parts h = tt
node-counted C s (nodes.primary how p) parts h = primary-counted C s (s ++ []) how (nodes.first (selected how p.selectors) p.first) p.selectors parts h
node-counted C s (nodes.first how f) parts h = first-counted C s (s ++ []) how (out-First f) parts h
node-counted C s (nodes.selector x) parts h = tt
node-counted C s (nodes.creation c) parts h = tt
node-counted C s (nodes.array a) parts h = tt

pub spot-counted : (C : Context) (x : Spot) (parts : List Types) → HaveValues (java_rules C) (inside C x) parts
    → AllByRecursion (IsCounted C.env) (node_names C x.scope x.node parts)
spot-counted C x = node-counted C x.scope x.node
