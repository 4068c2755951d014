-- What an occurrence refers to has the name that is spelled there.
use Rattle.std.proofs.Common.{◌≡◌, ℕ, Bool, true, false, cond, List, [], ◌∷◌, ◌++◌, Option, Some, None, refl, ap, ◌∙◌, filter}
use Rattle.std.specs.List.{AllByRecursion, zip}
use Rattle.java_tree.specs.declared.bound.Bound.{Bound}
use Rattle.java_tree.specs.declared.names.Ident.{Ident}
use Rattle.java_tree.specs.declared.occurrence.Access.{Access}
use Rattle.java_tree.specs.declared.occurrence.Access.TheVariants.{Read}
use Rattle.java_tree.specs.declared.occurrence.OccKind.TheVariants as occurs
use Rattle.java_tree.specs.declared.occurrence.TypeId.{TypeId}
use Rattle.java_tree.specs.declared.expr.Expr.{Expr}
use Rattle.java_tree.specs.declared.types.JType.{JType}
use Rattle.java_model.specs.Outlines.{spelled_name}
use Rattle.java_model.specs.Scopes.TypeNames.{type_name_kinds}
use Rattle.java_model.specs.Bindings.Chains.{Types, last_name}
use Rattle.java_model.specs.Occurrences.Expressions.{type_binding, in_optional_type, in_type_name, super_of_anonymous, is_interface_of, at_created, only_last, at_last, method_reference, constructor_reference}
use Rattle.java_model.specs.Names.Lists.{Identifier, Identifiers}
use Rattle.java_model.specs.Names.Environments.{Env}
use Rattle.java_model.specs.Scopes.Contexts.{Context}
use Rattle.java_model.specs.Scopes.Scoping.{creation_bound}
use Rattle.java_model.specs.Bindings.Calls.{constructor_in, only_choice, is_accessible_at, call_in}
use Rattle.java_model.specs.Occurrences.References.{mention, as_type, occurrences_in, Role, as_import, as_qualifier, as_variable, identifier_in, identifiers_in, unbound_last, last_access, package_in, package_run, counts_before, with_last_kind, last_kind}
use Rattle.java_model.specs.Occurrences.Laws.{Called, IsNamed}
use Rattle.java_model.specs.Occurrences.Declarations.{super_at_last}
use Rattle.std.proofs.lemmas.Option.{same_Some}
use Rattle.java_tree.specs.declared.occurrence.MethodId.{MethodId}
use Rattle.java_tree.specs.declared.occurrence.Occurrence.{Occurrence}
use Rattle.java_tree.specs.declared.types.Choice.{Choice}
use Rattle.java_tree.specs.declared.types.Choice.TheVariants as choices
use Rattle.java_tree.specs.declared.types.JType.TheVariants as types
use Rattle.java_tree.specs.declared.types.NameKind.{NameKind}
use Rattle.java_tree.specs.declared.types.NameKind.TheVariants as kinds
use Rattle.java_tree.specs.declared.expr.Creation.{Creation}
use Rattle.java_model.specs.Names.Methods.{methods, method_name}
use Rattle.java_model.specs.Names.Overloads.{choose}
use Rattle.java_model.proofs.Names.OverloadLaws.{chosen_method_fits, methods_have_their_name}
use Rattle.java_model.proofs.Names.Membership.{Among, among, among-filter, contained}
use Rattle.java_model.proofs.KindLaws.{KindNamed, KindsNamed, type-name-named}

PairNamed : Env → Ident × NameKind → Type 0
PairNamed env x = KindNamed env x.0.name x.1

abbrev pub AllNamed : Env → List Occurrence → Type 0
AllNamed env = AllByRecursion (IsNamed env)

pub append-named : (env : Env) (os ps : List Occurrence) → AllByRecursion (IsNamed env) os → AllByRecursion (IsNamed env) ps → AllByRecursion (IsNamed env) (os ++ ps)
append-named env [] ps h k = k
append-named env (o ∷ os) ps h k = (h.0, append-named env os ps h.1 k)

zip-named : (env : Env) (n : List Ident) (ks : List NameKind) → KindsNamed env (spelled_name n) ks → AllByRecursion (PairNamed env) (zip n ks)
unfolding PairNamed
zip-named env [] ks h = tt
zip-named env (i ∷ n) [] h = tt
zip-named env (i ∷ n) (k ∷ ks) h = (h.0, zip-named env n ks h.1)

last-named : (env : Env) (role : Role) (x : Identifier) (k : NameKind) → KindNamed env x k → KindNamed env x (last_kind role k)
last-named env as_type x (kinds.Class t) h = h
last-named env as_type x (kinds.Field f) h = tt
last-named env as_type x (kinds.Local t) h = tt
last-named env as_type x kinds.Package h = tt
last-named env as_type x kinds.Nothing h = tt
last-named env as_import x k h = h
last-named env as_qualifier x k h = h
last-named env (as_variable how) x (kinds.Class t) h = tt
last-named env (as_variable how) x (kinds.Field f) h = h
last-named env (as_variable how) x (kinds.Local t) h = tt
last-named env (as_variable how) x kinds.Package h = tt
last-named env (as_variable how) x kinds.Nothing h = tt

with-last-named : (env : Env) (role : Role) (xs : Identifiers) (ks : List NameKind) → KindsNamed env xs ks → KindsNamed env xs (with_last_kind role ks)
with-last-named env role [] [] h = tt
with-last-named env role [] (k ∷ ks) h = absurd h
with-last-named env role (x ∷ xs) [] h = absurd h
with-last-named env role (x ∷ xs) (k ∷ []) h = (last-named env role x k h.0, h.1)
with-last-named env role (x ∷ xs) (k ∷ l ∷ ks) h = (h.0, with-last-named env role xs (l ∷ ks) h.1)

run-named : (env : Env) (done : List Ident) (xs : List (Ident × NameKind)) → AllByRecursion (PairNamed env) xs → AllByRecursion (PairNamed env) (package_run done xs).rest
run-named env done [] h = tt
run-named env done ((i, kinds.Package) ∷ xs) h = run-named env (done ++ i ∷ []) xs h.1
run-named env done ((i, kinds.Class t) ∷ xs) h = h
run-named env done ((i, kinds.Field f) ∷ xs) h = h
run-named env done ((i, kinds.Local t) ∷ xs) h = h
run-named env done ((i, kinds.Nothing) ∷ xs) h = h

pub unbound-named : (env : Env) (role : Role) (i : Ident) → IsNamed env (unbound_last role i)
unbound-named env as_type i = tt
unbound-named env as_import i = tt
unbound-named env as_qualifier i = tt
unbound-named env (as_variable how) i = tt

pub identifier-named : (env : Env) (how : Access) (unbound : Occurrence) (i : Ident) (k : NameKind) → IsNamed env unbound → KindNamed env i.name k
    → AllByRecursion (IsNamed env) (identifier_in how unbound i k)
identifier-named env how unbound i (kinds.Class t) u h = (h, tt)
identifier-named env how unbound i (kinds.Field f) u h = (h, tt)
identifier-named env how unbound i (kinds.Local t) u h = tt
identifier-named env how unbound i kinds.Package u h = tt
identifier-named env how unbound i kinds.Nothing u h = (u, tt)

identifiers-named : (env : Env) (role : Role) (xs : List (Ident × NameKind)) → AllByRecursion (PairNamed env) xs → AllByRecursion (IsNamed env) (identifiers_in role xs)
unfolding PairNamed
identifiers-named env role [] h = tt
identifiers-named env role (x ∷ []) h = identifier-named env (last_access role) (unbound_last role x.0) x.0 x.1 (unbound-named env role x.0) h.0
identifiers-named env role (x ∷ y ∷ more) h =
    append-named env (identifier_in Read (unbound_last as_qualifier x.0) x.0 x.1) _
    (identifier-named env Read (unbound_last as_qualifier x.0) x.0 x.1 tt h.0) (identifiers-named env role (y ∷ more) h.1)

package-refers : (env : Env) (role : Role) (run : List Ident) (rest : List (Ident × NameKind)) (counts : Bool) → AllByRecursion (IsNamed env) (package_in role run rest counts)
package-refers env role [] rest counts = tt
package-refers env role (i ∷ run) rest true = (tt, tt)
package-refers env role (i ∷ run) rest false = tt

marked-named : (env : Env) (role : Role) (xs : List (Ident × NameKind)) → AllByRecursion (PairNamed env) xs
    → AllByRecursion (IsNamed env) (package_in role (package_run [] xs).run (package_run [] xs).rest (counts_before role (package_run [] xs).rest) ++ identifiers_in role (package_run [] xs).rest)
marked-named env role xs h =
    let r = package_run [] xs in
    append-named env (package_in role r.run r.rest (counts_before role r.rest)) (identifiers_in role r.rest)
    (package-refers env role r.run r.rest (counts_before role r.rest)) (identifiers-named env role r.rest (run-named env [] xs h))

pub name-named : (env : Env) (role : Role) (n : List Ident) (ks : List NameKind) → KindsNamed env (spelled_name n) ks → AllByRecursion (IsNamed env) (occurrences_in role n ks)
name-named env role n ks h =
    marked-named env role (zip n (with_last_kind role ks)) (zip-named env n (with_last_kind role ks) (with-last-named env role (spelled_name n) ks h))

-- the last identifier alone
pub only-named : (env : Env) (n : List Ident) (k : NameKind) → KindNamed env (last_name (spelled_name n)) k → AllByRecursion (IsNamed env) (occurrences_in as_type (only_last n) (k ∷ []))
only-named env [] k h = tt
only-named env (i ∷ []) k h = name-named env as_type (i ∷ []) (k ∷ []) (h, tt)
only-named env (i ∷ j ∷ more) k h = only-named env (j ∷ more) k h

-- methods
abbrev pub MethodCalled : Env → Identifier → Option MethodId → Type 0
MethodCalled env name o = (m : MethodId) → o ≡ Some m → method_name env m ≡ name

choice-called : (env : Env) (ms : List MethodId) (arguments : Types) (c : Choice) (m : MethodId) → choose env ms arguments ≡ c → only_choice c ≡ Some m → Among ms m
choice-called env ms arguments (choices.One k) m e h = among ms m (chosen_method_fits env ms arguments m (e ∙ ap (λ o. choices.One o) (same_Some k m h))).0
choice-called env ms arguments (choices.Ambiguous ks) m e h = absurd cc
choice-called env ms arguments choices.NoMethod m e h = absurd cc
choice-called env ms arguments choices.UnknownArgs m e h = absurd cc

pub call-named : (C : Context) (s : List Bound) (name : Identifier) (arguments : Types) (t : Option TypeId) → MethodCalled C.env name (call_in C s name arguments t)
call-named C s name arguments None m e = absurd cc
call-named C s name arguments (Some t) m e =
    let ms = filter (is_accessible_at C s) (methods C.env t name) in
    let a = choice-called C.env ms arguments (choose C.env ms arguments) m refl e in
    methods_have_their_name C.env t name m (contained (methods C.env t name) m (among-filter (is_accessible_at C s) (methods C.env t name) m a).0)

pub method-named : (env : Env) (i : Ident) (xs : List Expr) (o : Option MethodId) → MethodCalled env i.name o → IsNamed env (method_reference i xs o)
method-named env i xs None h = tt
method-named env i xs (Some m) h = h m refl

pub last-call-named : (env : Env) (n : List Ident) (xs : List Expr) (o : Option MethodId) → MethodCalled env (last_name (spelled_name n)) o → AllByRecursion (IsNamed env) (at_last n xs o)
last-call-named env [] xs o h = tt
last-call-named env (i ∷ []) xs o h = (method-named env i xs o h, tt)
last-call-named env (i ∷ j ∷ more) xs o h = last-call-named env (j ∷ more) xs o h

-- types
abbrev pub TypeCalled : Env → Identifier → JType → Type 0
TypeCalled env name t = (m : TypeId) → t ≡ types.Class m → Called env name m

super-named : (env : Env) (i : Ident) (t : JType) → TypeCalled env i.name t → IsNamed env (mention occurs.Super i (type_binding t))
super-named env i (types.Class t) h = h t refl
super-named env i (types.Primitive p) h = tt
super-named env i types.Void h = tt
super-named env i types.Null h = tt
super-named env i (types.Absent n) h = tt
super-named env i (types.Array e n) h = tt
super-named env i types.Unknown h = tt

pub last-super-named : (env : Env) (n : List Ident) (t : JType) → TypeCalled env (last_name (spelled_name n)) t → AllByRecursion (IsNamed env) (super_at_last n t)
last-super-named env [] t h = tt
last-super-named env (i ∷ []) t h = (super-named env i t h, tt)
last-super-named env (i ∷ j ∷ more) t h = last-super-named env (j ∷ more) t h

anonymous-named : (env : Env) (b : Option ℕ) (i : Ident) (t : JType) → TypeCalled env i.name t → AllByRecursion (IsNamed env) (super_of_anonymous b i t)
anonymous-named env None i t h = tt
anonymous-named env (Some brace) i t h = (super-named env i t h, tt)

unless-named : (env : Env) (b : Bool) (o : Occurrence) → IsNamed env o → AllByRecursion (IsNamed env) (cond b [] (o ∷ []))
unless-named env true o h = tt
unless-named env false o h = (h, tt)

pub created-named : (C : Context) (s : List Bound) (c : Creation) (t : JType) (arguments : Types) (n : List Ident) → TypeCalled C.env (last_name (spelled_name n)) t
    → AllByRecursion (IsNamed C.env) (at_created C s c t arguments n)
created-named C s c t arguments [] h = tt
created-named C s c t arguments (i ∷ []) h =
    append-named C.env (super_of_anonymous c.body i t) _ (anonymous-named C.env c.body i t h)
    (unless-named C.env (is_interface_of C.env t) (constructor_reference i c.arguments (constructor_in C (s ++ creation_bound C c.body) t arguments)) tt)
created-named C s c t arguments (i ∷ j ∷ more) h = created-named C s c t arguments (j ∷ more) h

pub type-name-refers : (C : Context) (s : List Bound) (n : List Ident) → AllByRecursion (IsNamed C.env) (in_type_name C s n)
type-name-refers C s n = name-named C.env as_type n (type_name_kinds C s (spelled_name n)) (type-name-named C s (spelled_name n))

pub optional-named : (C : Context) (s : List Bound) (n : Option (List Ident)) → AllByRecursion (IsNamed C.env) (in_optional_type C s n)
optional-named C s None = tt
optional-named C s (Some n) = type-name-refers C s n
