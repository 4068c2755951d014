-- What a call is bound to has as many parameters as the call has arguments.
use Rattle.std.proofs.Common.{◌≡◌, ℕ, suc, Bool, true, false, cond, List, [], ◌∷◌, ◌++◌, Option, Some, None, length, map, filter, refl, ap, sym, ◌∙◌, true≢false, append-nil, option_to_list}
use Rattle.std.proofs.lemmas.Option.{same_Some}
use Rattle.std.specs.List.{AllByRecursion, zip}
use Rattle.java_tree.specs.declared.bound.Bound.{Bound}
use Rattle.java_tree.specs.declared.names.Ident.{Ident}
use Rattle.java_tree.specs.declared.occurrence.Access.{Access}
use Rattle.java_tree.specs.declared.occurrence.Access.TheVariants.{NoAccess, Read}
use Rattle.java_tree.specs.declared.occurrence.Binding.TheVariants as bindings
use Rattle.java_tree.specs.declared.occurrence.MethodId.{MethodId}
use Rattle.java_tree.specs.declared.occurrence.OccKind.{OccKind}
use Rattle.java_tree.specs.declared.occurrence.OccKind.TheVariants as occurs
use Rattle.java_tree.specs.declared.occurrence.Occurrence.{Occurrence}
use Rattle.java_tree.specs.declared.occurrence.TypeId.{TypeId}
use Rattle.java_tree.specs.declared.expr.Expr.{Expr}
use Rattle.java_tree.specs.declared.token.Span.{Span}
use Rattle.java_tree.specs.declared.types.Choice.{Choice}
use Rattle.java_tree.specs.declared.types.Choice.TheVariants as choices
use Rattle.java_tree.specs.declared.types.JType.{JType}
use Rattle.java_tree.specs.declared.types.JType.TheVariants as types
use Rattle.java_tree.specs.declared.types.NameKind.{NameKind}
use Rattle.java_tree.specs.declared.types.NameKind.TheVariants as kinds
use Rattle.java_tree.specs.declared.expr.Creation.{Creation}
use Rattle.java_tree.specs.declared.expr.Expr.TheOpen.{First-F, Selector-F}
use Rattle.java_model.specs.Grammar.Forms.{FirstLayer, SelectorLayer}
use Rattle.java_model.specs.Outlines.{spelled_name}
use Rattle.java_model.specs.Tree.InExpressions.{in_first, in_selector}
use Rattle.java_model.specs.Scopes.NameKinds.{ambiguous_kinds, selected_field, kind_or_nothing}
use Rattle.java_model.specs.Scopes.TypeNames.{type_name_kinds, created_kinds}
use Rattle.java_model.specs.Scopes.Scoping.{creation_bound}
use Rattle.java_model.specs.Bindings.Calls.{receiving_type, inner_class}
use Rattle.java_model.specs.Bindings.Chains.{named_call, super_call, super_of, anonymous_class, created_class, inner_created, last_name, but_last, type_before}
use Rattle.java_model.specs.Occurrences.Expressions.{in_optional_type, type_binding, field_reference, super_of_anonymous, is_interface_of, at_created, in_creation, in_inner_creation, all_but_last, only_last, at_last, in_call, names_in_first, names_in_selector}
use Rattle.java_model.specs.Names.Lists.{Identifier}
use Rattle.java_model.specs.Names.Environments.{Env}
use Rattle.java_model.specs.Names.Methods.{params, methods, constructors}
use Rattle.java_model.specs.Names.Overloads.{choose}
use Rattle.java_model.specs.Places.{HaveValues}
use Rattle.java_model.specs.Tree.Nodes.{Node}
use Rattle.java_model.specs.Tree.Nodes as nodes
use Rattle.java_model.specs.Tree.InExpressions.{reads}
use Rattle.java_model.specs.Scopes.Contexts.{Context}
use Rattle.java_model.specs.Scopes.Scoping.{spots}
use Rattle.java_model.specs.Bindings.Calls.{only_choice, chosen_at, is_accessible_at, call_in, constructor_in}
use Rattle.java_model.specs.Bindings.Chains.{Types, flat_types}
use Rattle.java_model.specs.Occurrences.References.{mention, package_named, Role, as_type, as_import, as_qualifier, as_variable, occurrence, identifier_in, identifiers_in, unbound_last, last_access, occurrences_in, package_in, package_run, counts_before, with_last_kind}
use Rattle.java_model.specs.Occurrences.Expressions.{method_binding, method_reference, constructor_reference}
use Rattle.java_model.specs.Occurrences.Occurrences.{java_rules}
use Rattle.java_model.specs.Occurrences.Laws.{is_call, IsCounted}
use Rattle.java_model.proofs.Places.{taken}
use Rattle.java_model.proofs.Names.OverloadLaws.{chosen_method_fits}

-- what is chosen for so many arguments has so many parameters
pub Fits : Env → ℕ → Option MethodId → Type 0
Fits env n chosen = (m : MethodId) → chosen ≡ Some m → length (params env m) ≡ n

no-choice : (env : Env) (n : ℕ) → Fits env n None
unfolding Fits
no-choice env n m e = absurd cc

choice-fits : (env : Env) (ms : List MethodId) (arguments : Types) (c : Choice) → choose env ms arguments ≡ c → Fits env (length arguments) (only_choice c)
unfolding Fits
choice-fits env ms arguments (choices.One k) e m h = (chosen_method_fits env ms arguments m (e ∙ ap (λ o. choices.One o) (same_Some k m h))).1
choice-fits env ms arguments (choices.Ambiguous ks) e m h = absurd cc
choice-fits env ms arguments choices.NoMethod e m h = absurd cc
choice-fits env ms arguments choices.UnknownArgs e m h = absurd cc

chosen-at-fits : (C : Context) (s : List Bound) (ms : List MethodId) (arguments : Types) → Fits C.env (length arguments) (chosen_at C s ms arguments)
chosen-at-fits C s ms arguments = choice-fits C.env (filter (is_accessible_at C s) ms) arguments _ refl

call-fits : (C : Context) (s : List Bound) (name : Identifier) (arguments : Types) (t : Option TypeId) → Fits C.env (length arguments) (call_in C s name arguments t)
call-fits C s name arguments None = no-choice C.env (length arguments)
call-fits C s name arguments (Some t) = chosen-at-fits C s (methods C.env t name) arguments

pub constructor-fits : (C : Context) (s : List Bound) (t : JType) (arguments : Types) → Fits C.env (length arguments) (constructor_in C s t arguments)
constructor-fits C s (types.Class t) arguments = chosen-at-fits C s (constructors C.env t) arguments
constructor-fits C s (types.Primitive p) arguments = no-choice C.env (length arguments)
constructor-fits C s types.Void arguments = no-choice C.env (length arguments)
constructor-fits C s types.Null arguments = no-choice C.env (length arguments)
constructor-fits C s (types.Absent n) arguments = no-choice C.env (length arguments)
constructor-fits C s (types.Array e n) arguments = no-choice C.env (length arguments)
constructor-fits C s types.Unknown arguments = no-choice C.env (length arguments)

bound-to : (chosen : Option MethodId) (m : MethodId) → method_binding chosen ≡ bindings.Method m → chosen ≡ Some m
bound-to None m e = absurd cc
bound-to (Some k) m e = cc

-- an occurrence that is bound to a choice of as many arguments
pub counted : (env : Env) (kind : OccKind) (span : Span) (name : Identifier) (n k : ℕ) (chosen : Option MethodId) (how : Access) → Fits env k chosen → k ≡ n
    → IsCounted env (occurrence kind span name n (method_binding chosen) how)
unfolding Fits
counted env kind span name n k chosen how h e m call b = h m (bound-to chosen m b) ∙ e

-- an occurrence that is no call
pub not-a-call : (env : Env) (o : Occurrence) → is_call o.kind ≡ false → IsCounted env o
not-a-call env o e m call b = absurd (true≢false (sym call ∙ e))

pub Counted : Env → List Occurrence → Type 0
Counted env = AllByRecursion (IsCounted env)

pub both-counted : (env : Env) (os ps : List Occurrence) → AllByRecursion (IsCounted env) os → AllByRecursion (IsCounted env) ps → AllByRecursion (IsCounted env) (os ++ ps)
both-counted env [] ps h k = k
both-counted env (o ∷ os) ps h k = (h.0, both-counted env os ps h.1 k)

-- names have no calls
identifier-counted : (env : Env) (how : Access) (unbound : Occurrence) (i : Ident) (kind : NameKind) → is_call unbound.kind ≡ false
    → AllByRecursion (IsCounted env) (identifier_in how unbound i kind)
identifier-counted env how unbound i (kinds.Class t) e = (not-a-call env (mention occurs.TypeRef i (bindings.Class t)) refl, tt)
identifier-counted env how unbound i (kinds.Field f) e = (not-a-call env (occurrence occurs.FieldRef i.span i.name 0 (bindings.Field f) how) refl, tt)
identifier-counted env how unbound i (kinds.Local t) e = tt
identifier-counted env how unbound i kinds.Package e = tt
identifier-counted env how unbound i kinds.Nothing e = (not-a-call env unbound e, tt)

unbound-is-no-call : (role : Role) (i : Ident) → is_call (unbound_last role i).kind ≡ false
unbound-is-no-call as_type i = refl
unbound-is-no-call as_import i = refl
unbound-is-no-call as_qualifier i = refl
unbound-is-no-call (as_variable how) i = refl

identifiers-counted : (env : Env) (role : Role) (xs : List (Ident × NameKind)) → AllByRecursion (IsCounted env) (identifiers_in role xs)
identifiers-counted env role [] = tt
identifiers-counted env role (x ∷ []) = identifier-counted env (last_access role) (unbound_last role x.0) x.0 x.1 (unbound-is-no-call role x.0)
identifiers-counted env role (x ∷ y ∷ more) =
    both-counted env (identifier_in Read (unbound_last as_qualifier x.0) x.0 x.1) _
    (identifier-counted env Read (unbound_last as_qualifier x.0) x.0 x.1 refl) (identifiers-counted env role (y ∷ more))

package-counted : (env : Env) (role : Role) (run : List Ident) (rest : List (Ident × NameKind)) (counts : Bool)
    → AllByRecursion (IsCounted env) (package_in role run rest counts)
package-counted env role [] rest counts = tt
package-counted env role (i ∷ run) rest true = (not-a-call env (package_named occurs.PackageRef (i ∷ run)) refl, tt)
package-counted env role (i ∷ run) rest false = tt

pub name-counted : (env : Env) (role : Role) (n : List Ident) (ks : List NameKind) → AllByRecursion (IsCounted env) (occurrences_in role n ks)
name-counted env role n ks =
    let found = package_run [] (zip n (with_last_kind role ks)) in
    both-counted env (package_in role found.run found.rest (counts_before role found.rest)) (identifiers_in role found.rest)
    (package-counted env role found.run found.rest (counts_before role found.rest)) (identifiers-counted env role found.rest)

-- The values of nodes: what is inside an expression has one type.
-- of arguments, before nodes that have no types
arguments-counted : (C : Context) (s : List Bound) (xs : List Expr) (others : List Node) (vs : List Types)
    → ((t : List Bound) (us : List Types) → HaveValues (java_rules C) (spots C t others) us → length (flat_types us) ≡ 0)
    → HaveValues (java_rules C) (spots C s (map reads xs ++ others)) vs → length (flat_types vs) ≡ length xs
arguments-counted C s [] others vs empty h = empty s vs h
arguments-counted C s (x ∷ xs) others vs empty h =
    let t = taken (java_rules C) h in
    ap (λ us. length (flat_types us)) (sym t.4) ∙ ap suc (arguments-counted C (s ++ []) xs others t.1 empty t.3)

pub only-arguments : (C : Context) (s : List Bound) (xs : List Expr) (vs : List Types)
    → HaveValues (java_rules C) (spots C s (map reads xs)) vs → length (flat_types vs) ≡ length xs
only-arguments C s [] vs h = ap (λ us. length (flat_types us)) (sym (taken (java_rules C) h))
only-arguments C s (x ∷ xs) vs h =
    let t = taken (java_rules C) h in
    ap (λ us. length (flat_types us)) (sym t.4) ∙ ap suc (only-arguments C (s ++ []) xs t.1 t.3)

no-types : (C : Context) (s : List Bound) (us : List Types) → HaveValues (java_rules C) (spots C s []) us → length (flat_types us) ≡ 0
no-types C s us h = ap (λ us. length (flat_types us)) (sym (taken (java_rules C) h))

no-types-of-body : (C : Context) (b : Option ℕ) (s : List Bound) (us : List Types)
    → HaveValues (java_rules C) (spots C s (map nodes.body (option_to_list b))) us → length (flat_types us) ≡ 0
no-types-of-body C None s us h = no-types C s us h
no-types-of-body C (Some brace) s us h =
    let t = taken (java_rules C) h in
    ap (λ us. length (flat_types us)) (sym t.4) ∙ no-types C (s ++ []) t.1 t.3

-- a creation has the types of its arguments
creation-types : (C : Context) (s : List Bound) (c : Creation) (vs : List Types)
    → HaveValues (java_rules C) (spots C s (nodes.creation c ∷ [])) vs → length (flat_types vs) ≡ length c.arguments
creation-types C s c vs h =
    let t = taken (java_rules C) h in
    let none = taken (java_rules C) t.3 in
    ap (λ us. length (flat_types us)) (sym t.4)
    ∙ (ap (λ us. length (flat_types t.0 ++ flat_types us)) (sym none)
    ∙ (ap length (append-nil (flat_types t.0))
    ∙ arguments-counted C (s ++ creation_bound C c.body) c.arguments (map nodes.body (option_to_list c.body)) t.0 (no-types-of-body C c.body) t.2))

-- one occurrence alone
alone : (env : Env) (o : Occurrence) → IsCounted env o → AllByRecursion (IsCounted env) (o ∷ [])
alone env o h = (h, tt)

method-counted : (env : Env) (i : Ident) (xs : List Expr) (k : ℕ) (m : Option MethodId) → Fits env k m → k ≡ length xs → IsCounted env (method_reference i xs m)
method-counted env i xs k m h e = counted env occurs.MethodRef i.span i.name (length xs) k m NoAccess h e

last-counted : (env : Env) (n : List Ident) (xs : List Expr) (k : ℕ) (m : Option MethodId) → Fits env k m → k ≡ length xs
    → AllByRecursion (IsCounted env) (at_last n xs m)
last-counted env [] xs k m h e = tt
last-counted env (i ∷ []) xs k m h e = (method-counted env i xs k m h e, tt)
last-counted env (i ∷ j ∷ more) xs k m h e = last-counted env (j ∷ more) xs k m h e

optional-counted : (C : Context) (s : List Bound) (n : Option (List Ident)) → AllByRecursion (IsCounted C.env) (in_optional_type C s n)
optional-counted C s None = tt
optional-counted C s (Some n) = name-counted C.env as_type n (type_name_kinds C s (spelled_name n))

field-counted : (env : Env) (how : Access) (i : Ident) (kind : NameKind) → AllByRecursion (IsCounted env) (field_reference how i kind)
field-counted env how i kind = identifier-counted env how (unbound_last (as_variable how) i) i kind refl

super-counted : (env : Env) (b : Option ℕ) (i : Ident) (t : JType) → AllByRecursion (IsCounted env) (super_of_anonymous b i t)
super-counted env None i t = tt
super-counted env (Some brace) i t = (not-a-call env (mention occurs.Super i (type_binding t)) refl, tt)

unless-interface : (env : Env) (b : Bool) (o : Occurrence) → IsCounted env o → AllByRecursion (IsCounted env) (cond b [] (o ∷ []))
unless-interface env true o h = tt
unless-interface env false o h = (h, tt)

created-counted : (C : Context) (s : List Bound) (c : Creation) (t : JType) (arguments : Types) (n : List Ident) → length arguments ≡ length c.arguments
    → AllByRecursion (IsCounted C.env) (at_created C s c t arguments n)
created-counted C s c t arguments [] e = tt
created-counted C s c t arguments (i ∷ []) e =
    both-counted C.env (super_of_anonymous c.body i t) _ (super-counted C.env c.body i t)
    (unless-interface C.env (is_interface_of C.env t) (constructor_reference i c.arguments (constructor_in C (s ++ creation_bound C c.body) t arguments))
    (counted C.env occurs.CtorRef i.span i.name (length c.arguments) (length arguments) (constructor_in C (s ++ creation_bound C c.body) t arguments) NoAccess
    (constructor-fits C (s ++ creation_bound C c.body) t arguments) e))
created-counted C s c t arguments (i ∷ j ∷ more) e = created-counted C s c t arguments (j ∷ more) e

creation-counted : (C : Context) (s : List Bound) (c : Creation) (arguments : Types) → length arguments ≡ length c.arguments
    → AllByRecursion (IsCounted C.env) (in_creation C s c arguments)
creation-counted C s c arguments e =
    let kinds = created_kinds C s (anonymous_class C c) (spelled_name c.class) in
    both-counted C.env (occurrences_in as_type c.class kinds) _ (name-counted C.env as_type c.class kinds)
    (created-counted C s c (created_class C s c) arguments c.class e)

inner-counted : (C : Context) (s : List Bound) (t : JType) (c : Creation) (arguments : Types) → length arguments ≡ length c.arguments
    → AllByRecursion (IsCounted C.env) (in_inner_creation C s t c arguments)
inner-counted C s t c arguments e =
    both-counted C.env (occurrences_in as_type (only_last c.class) (kind_or_nothing kinds.Class (inner_class C.env t (last_name (spelled_name c.class))) ∷ [])) _
    (name-counted C.env as_type (only_last c.class) (kind_or_nothing kinds.Class (inner_class C.env t (last_name (spelled_name c.class))) ∷ []))
    (created-counted C s c (inner_created C.env t c) arguments c.class e)

call-counted : (C : Context) (s : List Bound) (n : List Ident) (xs : List Expr) (arguments : Types) → length arguments ≡ length xs
    → AllByRecursion (IsCounted C.env) (in_call C s n xs arguments)
call-counted C s n xs arguments e =
    both-counted C.env (occurrences_in as_qualifier (all_but_last n) (ambiguous_kinds C s (spelled_name (all_but_last n)))) _
    (name-counted C.env as_qualifier (all_but_last n) (ambiguous_kinds C s (spelled_name (all_but_last n))))
    (last-counted C.env n xs (length arguments) (named_call C s (spelled_name n) arguments)
    (call-fits C s (last_name (spelled_name n)) arguments (type_before C s (but_last (spelled_name n)) (last_name (spelled_name n)))) e)

-- what a primary expression begins with
pub first-counted : (C : Context) (s t : List Bound) (how : Access) (f : FirstLayer) (parts : List Types) → HaveValues (java_rules C) (spots C t (in_first how f)) parts
    → AllByRecursion (IsCounted C.env) (names_in_first C s how f parts)
first-counted C s t how (First-F.Literal l) parts h = tt
first-counted C s t how (First-F.This at) parts h = tt
first-counted C s t how (First-F.Name n) parts h = name-counted C.env (as_variable how) n (ambiguous_kinds C s (spelled_name n))
first-counted C s t how (First-F.Parenthesized x) parts h = tt
first-counted C s t how (First-F.ClassLiteral type) parts h = tt
first-counted C s t how First-F.VoidClass parts h = tt
first-counted C s t how (First-F.QualifiedThis n at) parts h = name-counted C.env as_type n (type_name_kinds C s (spelled_name n))
first-counted C s t how (First-F.SuperField n at i) parts h =
    both-counted C.env (in_optional_type C s n) _ (optional-counted C s n) (field-counted C.env how i (selected_field C.env (super_of C s n) i.name))
first-counted C s t how (First-F.Call n xs) parts h = call-counted C s n xs (flat_types parts) (only-arguments C t xs parts h)
first-counted C s t how (First-F.SuperCall n at i xs) parts h =
    both-counted C.env (in_optional_type C s n) _ (optional-counted C s n)
    (alone C.env (method_reference i xs (super_call C s n i.name (flat_types parts)))
    (method-counted C.env i xs (length (flat_types parts)) (super_call C s n i.name (flat_types parts))
    (call-fits C s i.name (flat_types parts) (receiving_type C.env (super_of C s n))) (only-arguments C t xs parts h)))
first-counted C s t how (First-F.New c) parts h = creation-counted C s c (flat_types parts) (creation-types C t c parts h)
first-counted C s t how (First-F.NewArray e sizes dims) parts h = tt
first-counted C s t how (First-F.NewArrayOf e dims a) parts h = tt

-- a selector
pub selector-counted : (C : Context) (s t : List Bound) (how : Access) (u : JType) (x : SelectorLayer) (parts : List Types)
    → HaveValues (java_rules C) (spots C t (in_selector x)) parts → AllByRecursion (IsCounted C.env) (names_in_selector C s how u x (flat_types parts))
selector-counted C s t how u (Selector-F.Field i) parts h = field-counted C.env how i (selected_field C.env u i.name)
selector-counted C s t how u (Selector-F.MemberCall i xs) parts h =
    alone C.env (method_reference i xs (call_in C s i.name (flat_types parts) (receiving_type C.env u)))
    (method-counted C.env i xs (length (flat_types parts)) (call_in C s i.name (flat_types parts) (receiving_type C.env u))
    (call-fits C s i.name (flat_types parts) (receiving_type C.env u)) (only-arguments C t xs parts h))
selector-counted C s t how u (Selector-F.Index x) parts h = tt
selector-counted C s t how u (Selector-F.QualifiedNew c) parts h = inner-counted C s u c (flat_types parts) (creation-types C t c parts h)
