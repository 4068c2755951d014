-- The constructor to which a reference is bound is of the class that it spells.
use Rattle.std.proofs.Common.{◌≡◌, ℕ, Bool, true, false, cond, List, [], ◌∷◌, ◌++◌, Option, Some, None, drop, length, filter, Contains, inl, refl, ap, ◌∙◌, subst}
use Rattle.std.specs.List.{AllByRecursion, zip, list_any}
use Rattle.std.specs.Option.{option_map_or, option_and_then}
use Rattle.std.proofs.lemmas.Option.{none-some, same_Some}
use Rattle.java_tree.specs.declared.bound.Bound.{Bound}
use Rattle.java_tree.specs.declared.expr.Creation.{Creation}
use Rattle.java_tree.specs.declared.expr.Expr.{Expr}
use Rattle.java_tree.specs.declared.expr.Expr.TheOpen.{First-F, Selector-F}
use Rattle.java_tree.specs.declared.expr.Selector.{Selector, out-Selector}
use Rattle.java_tree.specs.declared.names.ElementType.{ElementType}
use Rattle.java_tree.specs.declared.names.ElementType.TheVariants as elements
use Rattle.java_tree.specs.declared.names.Ident.{Ident}
use Rattle.java_tree.specs.declared.occurrence.Access.{Access}
use Rattle.java_tree.specs.declared.occurrence.Access.TheVariants.{Read}
use Rattle.java_tree.specs.declared.occurrence.Binding.TheVariants as bindings
use Rattle.java_tree.specs.declared.occurrence.MethodId.{MethodId}
use Rattle.java_tree.specs.declared.occurrence.OccKind.{OccKind}
use Rattle.java_tree.specs.declared.occurrence.OccKind.TheVariants as occ
use Rattle.java_tree.specs.declared.occurrence.Occurrence.{Occurrence}
use Rattle.java_tree.specs.declared.occurrence.TypeId.{TypeId}
use Rattle.java_tree.specs.declared.token.Span.{Span}
use Rattle.java_tree.specs.declared.types.Choice.{Choice}
use Rattle.java_tree.specs.declared.types.Choice.TheVariants as choices
use Rattle.java_tree.specs.declared.types.JType.{JType}
use Rattle.java_tree.specs.declared.types.JType.TheVariants as types
use Rattle.java_tree.specs.declared.types.NameKind.{NameKind}
use Rattle.java_tree.specs.declared.types.NameKind.TheVariants as kinds
use Rattle.java_tree.specs.declared.unit.Callee.{Callee}
use Rattle.java_tree.specs.declared.unit.Callee.TheVariants as callees
use Rattle.java_tree.specs.declared.unit.Constructor.{Constructor}
use Rattle.java_tree.specs.declared.unit.Explicit.{Explicit}
use Rattle.java_tree.specs.declared.unit.TypeHead.{TypeHead}
use Rattle.java_tree.specs.declared.unit.TypeHead.TheVariants as heads
use Rattle.java_model.specs.Grammar.Forms.{FirstLayer, SelectorLayer}
use Rattle.java_model.specs.Outlines.{spelled_name}
use Rattle.java_model.specs.Names.Lists.{Identifier, Identifiers, the_one}
use Rattle.java_model.specs.Names.Laws.{ChosenMethodFits, MemberTypesHaveTheirName}
use Rattle.java_model.specs.Names.MemberTypes.{member_types}
use Rattle.java_model.specs.Names.Environments.{Env, Declared, declared_at, name_at, id_of}
use Rattle.java_model.specs.Names.Methods.{bodies_of, constructors_in, constructors, methods}
use Rattle.java_model.specs.Names.Overloads.{choose}
use Rattle.java_model.specs.Names.Supertypes.{resolve_in_header}
use Rattle.java_model.specs.Tree.Children.{Numbered}
use Rattle.java_model.specs.Scopes.Contexts.{Context, numbered_id}
use Rattle.java_model.specs.Scopes.NameKinds.{ambiguous_kinds, selected_field, kind_or_nothing}
use Rattle.java_model.specs.Scopes.Scoping.{creation_bound, within_body}
use Rattle.java_model.specs.Scopes.TypeNames.{type_name_kinds, header_kinds, created_kinds}
use Rattle.java_model.specs.Bindings.Calls.{is_accessible_at, only_choice, constructor_in, inner_class, this_class, super_type, call_in, receiving_type}
use Rattle.java_model.specs.Bindings.Chains.{Types, flat_types, last_name, anonymous_class, created_class, inner_created, inner_or_absent, selector_type, named_call, super_call, super_of, type_before, but_last}
use Rattle.java_model.specs.Occurrences.Laws.{Called}
use Rattle.java_model.specs.Occurrences.References.{Role, as_type, as_import, as_qualifier, as_variable, identifier_in, identifiers_in, unbound_last, last_access, package_in, package_run, counts_before, with_last_kind, occurrences_in}
use Rattle.java_model.specs.Occurrences.Expressions.{in_element, in_optional_type, method_binding, field_reference, super_of_anonymous, is_interface_of, constructor_reference, at_created, in_creation, only_last, all_but_last, at_last, names_in_first, names_in_selector, names_in_chain, method_reference}
use Rattle.java_model.specs.Occurrences.Declarations.{spelled_superclass, simple_name, superclass_name, super_reference, implicit_super, head_of, implicit_in, names_in_explicit, type_declaration, is_constructor, default_super, names_in_declaration, super_at_last, in_supertype}
use Rattle.java_model.proofs.KindLaws.{created-called}
use Rattle.java_model.proofs.SpelledLaws.{TypeCalled}
use Rattle.java_laws.proofs.Lists.{Among, among, contained}
use Rattle.java_laws.proofs.Numbers.{own-id}
use Rattle.java_laws.proofs.There.{IsMethod, among-filter, of-ids, constructor-there, method-there}

-- WHAT A CONSTRUCTOR IS OF
of-constructors : (env : Env) (t : TypeId) (o : Option Declared) (m : MethodId) → declared_at env t ≡ o → Among (option_map_or (constructors_in env) o []) m
    → m.of ≡ t
of-constructors env t None m e a = absurd a
of-constructors env t (Some d) m e a = of-ids (id_of d) (length d.type.methods) (drop (length d.type.methods) (bodies_of env d)) m a ∙ own-id env t d e

chosen : ChosenMethodFits → (env : Env) (ms : List MethodId) (arguments : Types) (c : Choice) (m : MethodId) → choose env ms arguments ≡ c
    → only_choice c ≡ Some m → Among ms m
chosen law env ms arguments (choices.One k) m e h = among ms m (law env ms arguments m (e ∙ ap (λ o. choices.One o) (same_Some k m h))).0
chosen law env ms arguments (choices.Ambiguous ks) m e h = absurd (none-some m h)
chosen law env ms arguments choices.NoMethod m e h = absurd (none-some m h)
chosen law env ms arguments choices.UnknownArgs m e h = absurd (none-some m h)

-- a constructor of a class of that name, in the environment
pub record IsConstructorOf (env : Env) (name : Identifier) (m : MethodId) : Type 0 where
  pub named : name_at env m.of ≡ Some name
  pub there : IsMethod env m

constructor-named : ChosenMethodFits → (C : Context) (s : List Bound) (t : JType) (arguments : Types) (name : Identifier) → TypeCalled C.env name t
    → (m : MethodId) → constructor_in C s t arguments ≡ Some m → IsConstructorOf C.env name m
constructor-named law C s (types.Class t) arguments name h m e =
    let ms = filter (is_accessible_at C s) (constructors C.env t) in
    let a = among-filter (is_accessible_at C s) (constructors C.env t) m (chosen law C.env ms arguments (choose C.env ms arguments) m refl e) in
    record {
      named = ap (name_at C.env) (of-constructors C.env t (declared_at C.env t) m refl a) ∙ h t refl;
      there = constructor-there C.env t (declared_at C.env t) m refl a;
    }
constructor-named law C s (types.Primitive p) arguments name h m e = absurd (none-some m e)
constructor-named law C s types.Void arguments name h m e = absurd (none-some m e)
constructor-named law C s types.Null arguments name h m e = absurd (none-some m e)
constructor-named law C s (types.Absent n) arguments name h m e = absurd (none-some m e)
constructor-named law C s (types.Array a n) arguments name h m e = absurd (none-some m e)
constructor-named law C s types.Unknown arguments name h m e = absurd (none-some m e)

call-there : ChosenMethodFits → (C : Context) (s : List Bound) (name : Identifier) (arguments : Types) (t : Option TypeId)
    → (m : MethodId) → call_in C s name arguments t ≡ Some m → IsMethod C.env m
call-there law C s name arguments None m e = absurd (none-some m e)
call-there law C s name arguments (Some t) m e =
    let ms = filter (is_accessible_at C s) (methods C.env t name) in
    method-there C.env t name m
    (among-filter (is_accessible_at C s) (methods C.env t name) m (chosen law C.env ms arguments (choose C.env ms arguments) m refl e))

-- OCCURRENCES
abbrev pub MadeAs : Env → Occurrence → OccKind → Type 0
MadeAs env o occ.CtorRef = (m : MethodId) → o.binding ≡ bindings.Method m → IsConstructorOf env o.name m
MadeAs env o occ.MethodRef = (m : MethodId) → o.binding ≡ bindings.Method m → IsMethod env m
MadeAs env o _ = Unit {0}

-- A reference to a constructor is of a class of its name, and each call is of a method that is there.
abbrev pub IsMade : Env → Occurrence → Type 0
IsMade env o = MadeAs env o o.kind

abbrev pub AllMade : Env → List Occurrence → Type 0
AllMade env = AllByRecursion (IsMade env)

pub append-made : (env : Env) (os ps : List Occurrence) → AllMade env os → AllMade env ps → AllMade env (os ++ ps)
append-made env [] ps h k = k
append-made env (o ∷ os) ps h k = (h.0, append-made env os ps h.1 k)

same-method : (k m : MethodId) → bindings.Method k ≡ bindings.Method m → k ≡ m
same-method k m e = cc

made : (P : MethodId → Type 0) (o : Option MethodId) → ((m : MethodId) → o ≡ Some m → P m) → (m : MethodId) → method_binding o ≡ bindings.Method m → P m
made P None h m e = absurd cc
made P (Some k) h m e = subst P (same-method k m e) (h k refl)

-- names
unbound-made : (env : Env) (role : Role) (i : Ident) → IsMade env (unbound_last role i)
unbound-made env as_type i = tt
unbound-made env as_import i = tt
unbound-made env as_qualifier i = tt
unbound-made env (as_variable how) i = tt

identifier-made : (env : Env) (how : Access) (unbound : Occurrence) (i : Ident) (k : NameKind) → IsMade env unbound
    → AllMade env (identifier_in how unbound i k)
identifier-made env how unbound i (kinds.Class t) u = (tt, tt)
identifier-made env how unbound i (kinds.Field f) u = (tt, tt)
identifier-made env how unbound i (kinds.Local t) u = tt
identifier-made env how unbound i kinds.Package u = tt
identifier-made env how unbound i kinds.Nothing u = (u, tt)

identifiers-made : (env : Env) (role : Role) (xs : List (Ident × NameKind)) → AllMade env (identifiers_in role xs)
identifiers-made env role [] = tt
identifiers-made env role (x ∷ []) = identifier-made env (last_access role) (unbound_last role x.0) x.0 x.1 (unbound-made env role x.0)
identifiers-made env role (x ∷ y ∷ more) =
    append-made env (identifier_in Read (unbound_last as_qualifier x.0) x.0 x.1) (identifiers_in role (y ∷ more))
    (identifier-made env Read (unbound_last as_qualifier x.0) x.0 x.1 tt) (identifiers-made env role (y ∷ more))

package-made : (env : Env) (role : Role) (run : List Ident) (rest : List (Ident × NameKind)) (counts : Bool) → AllMade env (package_in role run rest counts)
package-made env role [] rest counts = tt
package-made env role (i ∷ run) rest true = (tt, tt)
package-made env role (i ∷ run) rest false = tt

pub name-made : (env : Env) (role : Role) (n : List Ident) (ks : List NameKind) → AllMade env (occurrences_in role n ks)
name-made env role n ks =
    let r = package_run [] (zip n (with_last_kind role ks)) in
    append-made env (package_in role r.run r.rest (counts_before role r.rest)) (identifiers_in role r.rest)
    (package-made env role r.run r.rest (counts_before role r.rest)) (identifiers-made env role r.rest)

pub element-made : (C : Context) (s : List Bound) (e : ElementType) → AllMade C.env (in_element C s e)
element-made C s (elements.Primitive p) = tt
element-made C s (elements.Named n) = name-made C.env as_type n (type_name_kinds C s (spelled_name n))

optional-made : (C : Context) (s : List Bound) (n : Option (List Ident)) → AllMade C.env (in_optional_type C s n)
optional-made C s None = tt
optional-made C s (Some n) = name-made C.env as_type n (type_name_kinds C s (spelled_name n))

field-made : (env : Env) (how : Access) (i : Ident) (k : NameKind) → AllMade env (field_reference how i k)
field-made env how i k = identifier-made env how (unbound_last (as_variable how) i) i k tt

method-made : (env : Env) (i : Ident) (xs : List Expr) (o : Option MethodId) → ((m : MethodId) → o ≡ Some m → IsMethod env m)
    → IsMade env (method_reference i xs o)
method-made env i xs o h = made (IsMethod env) o h

last-made : (env : Env) (n : List Ident) (xs : List Expr) (o : Option MethodId) → ((m : MethodId) → o ≡ Some m → IsMethod env m) → AllMade env (at_last n xs o)
last-made env [] xs o h = tt
last-made env (i ∷ []) xs o h = (method-made env i xs o h, tt)
last-made env (i ∷ j ∷ more) xs o h = last-made env (j ∷ more) xs o h

-- creations
anonymous-made : (env : Env) (b : Option ℕ) (i : Ident) (t : JType) → AllMade env (super_of_anonymous b i t)
anonymous-made env None i t = tt
anonymous-made env (Some brace) i t = (tt, tt)

unless-made : (env : Env) (b : Bool) (o : Occurrence) → IsMade env o → AllMade env (cond b [] (o ∷ []))
unless-made env true o h = tt
unless-made env false o h = (h, tt)

created-made : ChosenMethodFits → (C : Context) (s : List Bound) (c : Creation) (t : JType) (arguments : Types) (n : List Ident)
    → TypeCalled C.env (last_name (spelled_name n)) t → AllMade C.env (at_created C s c t arguments n)
created-made law C s c t arguments [] h = tt
created-made law C s c t arguments (i ∷ []) h =
    let k = constructor_in C (s ++ creation_bound C c.body) t arguments in
    append-made C.env (super_of_anonymous c.body i t) _ (anonymous-made C.env c.body i t)
    (unless-made C.env (is_interface_of C.env t) (constructor_reference i c.arguments k)
    (made (IsConstructorOf C.env i.name) k (constructor-named law C (s ++ creation_bound C c.body) t arguments i.name h)))
created-made law C s c t arguments (i ∷ j ∷ more) h = created-made law C s c t arguments (j ∷ more) h

creation-made : ChosenMethodFits → (C : Context) (s : List Bound) (c : Creation) (arguments : Types) → AllMade C.env (in_creation C s c arguments)
creation-made law C s c arguments =
    let ks = created_kinds C s (anonymous_class C c) (spelled_name c.class) in
    append-made C.env (occurrences_in as_type c.class ks) _ (name-made C.env as_type c.class ks)
    (created-made law C s c (created_class C s c) arguments c.class (λ m e. created-called C s (anonymous_class C c) (spelled_name c.class) m e))

-- the laws of java_model that this stands on
pub record Laws : Type 0 where
  pub chosen : ChosenMethodFits
  pub members : MemberTypesHaveTheirName

pub first-made : Laws → (C : Context) (s : List Bound) (how : Access) (f : FirstLayer) (parts : List Types) → AllMade C.env (names_in_first C s how f parts)
first-made law C s how (First-F.Name n) parts = name-made C.env (as_variable how) n (ambiguous_kinds C s (spelled_name n))
first-made law C s how (First-F.QualifiedThis n at) parts = name-made C.env as_type n (type_name_kinds C s (spelled_name n))
first-made law C s how (First-F.SuperField n at i) parts = append-made C.env (in_optional_type C s n) _ (optional-made C s n) (field-made C.env how i _)
first-made law C s how (First-F.Call n xs) parts =
    append-made C.env (occurrences_in as_qualifier (all_but_last n) (ambiguous_kinds C s (spelled_name (all_but_last n)))) _
    (name-made C.env as_qualifier (all_but_last n) (ambiguous_kinds C s (spelled_name (all_but_last n))))
    (last-made C.env n xs (named_call C s (spelled_name n) (flat_types parts))
    (call-there law.chosen C s (last_name (spelled_name n)) (flat_types parts) (type_before C s (but_last (spelled_name n)) (last_name (spelled_name n)))))
first-made law C s how (First-F.SuperCall n at i xs) parts = append-made C.env (in_optional_type C s n) _ (optional-made C s n) (
  method-made C.env i xs (super_call C s n i.name (flat_types parts))
      (call-there law.chosen C s i.name (flat_types parts) (receiving_type C.env (super_of C s n))),
  tt,
)
first-made law C s how (First-F.New c) parts = creation-made law.chosen C s c (flat_types parts)
first-made law C s how _ parts = tt

one-of : (xs : List TypeId) (x : TypeId) → the_one xs ≡ Some x → Contains xs x
one-of [] x e = absurd (none-some x e)
one-of (y ∷ []) x e = contained (y ∷ []) x (inl (same_Some y x e))
one-of (y ∷ z ∷ xs) x e = absurd (none-some x e)

pub inner-called : MemberTypesHaveTheirName → (env : Env) (t : JType) (name : Identifier) (m : TypeId) → inner_class env t name ≡ Some m → Called env name m
inner-called law env (types.Class u) name m e = law env u name m (one-of (member_types env u name) m e)
inner-called law env (types.Primitive p) name m e = absurd (none-some m e)
inner-called law env types.Void name m e = absurd (none-some m e)
inner-called law env types.Null name m e = absurd (none-some m e)
inner-called law env (types.Absent n) name m e = absurd (none-some m e)
inner-called law env (types.Array a n) name m e = absurd (none-some m e)
inner-called law env types.Unknown name m e = absurd (none-some m e)

class-same : (k m : TypeId) → types.Class k ≡ types.Class m → Some k ≡ Some m
class-same k m e = cc

pub inner-type : (env : Env) (spelled : Identifiers) (name : Identifier) (o : Option TypeId) → ((m : TypeId) → o ≡ Some m → Called env name m)
    → TypeCalled env name (inner_or_absent spelled o)
inner-type env spelled name None h m e = absurd cc
inner-type env spelled name (Some k) h m e = h m (class-same k m e)

selector-made : Laws → (C : Context) (s : List Bound) (how : Access) (t : JType) (x : SelectorLayer) (arguments : Types)
    → AllMade C.env (names_in_selector C s how t x arguments)
selector-made law C s how t (Selector-F.Field i) arguments = field-made C.env how i (selected_field C.env t i.name)
selector-made law C s how t (Selector-F.MemberCall i xs) arguments =
    (method-made C.env i xs (call_in C s i.name arguments (receiving_type C.env t)) (call-there law.chosen C s i.name arguments (receiving_type C.env t)), tt)
selector-made law C s how t (Selector-F.Index x) arguments = tt
selector-made law C s how t (Selector-F.QualifiedNew c) arguments =
    let name = last_name (spelled_name c.class) in
    let ks = kind_or_nothing kinds.Class (inner_class C.env t name) ∷ [] in
    append-made C.env (occurrences_in as_type (only_last c.class) ks) _ (name-made C.env as_type (only_last c.class) ks)
    (created-made law.chosen C s c (inner_created C.env t c) arguments c.class
    (inner-type C.env (spelled_name c.class) name (inner_class C.env t name) (inner-called law.members C.env t name)))

pub chain-made : Laws → (C : Context) (s : List Bound) (how : Access) (t : JType) (xs : List (Selector × Types)) → AllMade C.env (names_in_chain C s how t xs)
chain-made law C s how t [] = tt
chain-made law C s how t (x ∷ []) = selector-made law C s how t (out-Selector x.0) x.1
chain-made law C s how t (x ∷ y ∷ more) =
    append-made C.env (names_in_selector C s Read t (out-Selector x.0) x.1) _ (selector-made law C s Read t (out-Selector x.0) x.1)
    (chain-made law C s how (selector_type C s t (out-Selector x.0) x.1) (y ∷ more))

-- `super(..)`, spelled or not, where the superclass has a name
super-made : ChosenMethodFits → (C : Context) (s : List Bound) (span : Span) (name : Identifier) (count : ℕ) (arguments : Types)
    → TypeCalled C.env name (super_type C.env (this_class s)) → IsMade C.env (super_reference C s span name count arguments)
super-made law C s span name count arguments h =
    let t = super_type C.env (this_class s) in
    made (IsConstructorOf C.env name) (constructor_in C s t arguments) (constructor-named law C s t arguments name h)

implicit-made : ChosenMethodFits → (C : Context) (s : List Bound) (span : Span) (name : Option Identifier)
    → ((x : Identifier) → name ≡ Some x → TypeCalled C.env x (super_type C.env (this_class s))) → AllMade C.env (implicit_super C s span name)
implicit-made law C s span None h = tt
implicit-made law C s span (Some name) h = (super-made law C s span name 0 [] (h name refl), tt)

pub implicit-in-made : ChosenMethodFits → (C : Context) (s : List Bound) (number : ℕ) (c : Constructor) (e : Option Explicit)
    → ((x : Identifier) → option_and_then spelled_superclass (head_of C number) ≡ Some x → TypeCalled C.env x (super_type C.env (this_class s)))
    → AllMade C.env (implicit_in C s number c e)
implicit-in-made law C s number c None h = implicit-made law C s c.name.span (option_and_then spelled_superclass (head_of C number)) h
implicit-in-made law C s number c (Some e) h = tt

pub explicit-made : ChosenMethodFits → (C : Context) (s : List Bound) (number n : ℕ) (c : Callee) (parts : List Types)
    → TypeCalled C.env (option_map_or simple_name (head_of C number) []) (this_class s)
    → TypeCalled C.env (superclass_name (head_of C number)) (super_type C.env (this_class s))
    → IsMade C.env (names_in_explicit C s number n c parts)
explicit-made law C s number n (callees.This span) parts own above =
    let name = option_map_or simple_name (head_of C number) [] in
    made (IsConstructorOf C.env name) (constructor_in C s (this_class s) (flat_types parts))
    (constructor-named law C s (this_class s) (flat_types parts) name own)
explicit-made law C s number n (callees.Super None span) parts own above =
    super-made law C s span (superclass_name (head_of C number)) n (flat_types parts) above
explicit-made law C s number n (callees.Super (Some p) span) parts own above =
    super-made law C s span (superclass_name (head_of C number)) n (flat_types (drop 1 parts)) above

type-declaration-made : (env : Env) (t : TypeId) (h : TypeHead) → AllMade env (type_declaration t h)
type-declaration-made env t (heads.Class c) = (tt, tt)
type-declaration-made env t (heads.Interface i) = (tt, tt)
type-declaration-made env t heads.Anonymous = tt

default-by : ChosenMethodFits → (C : Context) (s : List Bound) (span : Span) (name : Option Identifier) (b : Bool)
    → ((x : Identifier) → name ≡ Some x → TypeCalled C.env x (super_type C.env (this_class s))) → AllMade C.env (cond b [] (implicit_super C s span name))
default-by law C s span name true h = tt
default-by law C s span name false h = implicit-made law C s span name h

default-made : ChosenMethodFits → (C : Context) (s : List Bound) (t : Numbered) (head : TypeHead)
    → ((x : Identifier) → spelled_superclass head ≡ Some x → TypeCalled C.env x (super_type C.env (this_class (s ++ within_body C (Some t)))))
    → AllMade C.env (default_super C s t head)
default-made law C s t (heads.Class c) h =
    default-by law C (s ++ within_body C (Some t)) c.name.span (spelled_superclass (heads.Class c)) (list_any is_constructor t.type.members) h
default-made law C s t (heads.Interface i) h = tt
default-made law C s t heads.Anonymous h = tt

pub declaration-made : ChosenMethodFits → (C : Context) (s : List Bound) (t : Option Numbered)
    → ((v : Numbered) → t ≡ Some v → (x : Identifier) → spelled_superclass v.type.head ≡ Some x
    → TypeCalled C.env x (super_type C.env (this_class (s ++ within_body C (Some v)))))
    → AllMade C.env (names_in_declaration C s t)
declaration-made law C s None h = tt
declaration-made law C s (Some t) h =
    append-made C.env (type_declaration (numbered_id C t.number) t.type.head) _ (type-declaration-made C.env (numbered_id C t.number) t.type.head)
    (default-made law C s t t.type.head (h t refl))

super-at-last-made : (env : Env) (n : List Ident) (t : JType) → AllMade env (super_at_last n t)
super-at-last-made env [] t = tt
super-at-last-made env (i ∷ []) t = (tt, tt)
super-at-last-made env (i ∷ j ∷ more) t = super-at-last-made env (j ∷ more) t

pub supertype-made : (C : Context) (t : TypeId) (n : List Ident) (d : Option Declared) → AllMade C.env (in_supertype C t n d)
supertype-made C t n None = tt
supertype-made C t n (Some d) =
    append-made C.env (occurrences_in as_type n (header_kinds C.env d t (spelled_name n))) _
    (name-made C.env as_type n (header_kinds C.env d t (spelled_name n)))
    (super-at-last-made C.env n (resolve_in_header C.env d t (spelled_name n)))
