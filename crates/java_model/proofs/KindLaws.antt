-- What an identifier of a name means has its name.
use Rattle.std.proofs.Common.{◌≡◌, Bool, true, false, cond, List, [], ◌∷◌, ◌++◌, Option, Some, None, map, slice_get, refl, sym, subst, ◌∙◌, codes, inl, append-nil, append_assoc}
use Rattle.std.specs.Prelude.{option_map, option_to_list}
use Rattle.std.specs.List.{last_or as std_last}
use Rattle.std.specs.Option.{option_or}
use Rattle.std.specs.Str.{bytes_eq}
use Rattle.std.proofs.lemmas.Option.{none-some, same_Some}
use Rattle.java_tree.specs.declared.bound.Bound.{Bound}
use Rattle.java_tree.specs.declared.bound.Bound.TheVariants as bounds
use Rattle.java_tree.specs.declared.names.Primitive.TheVariants as primitives
use Rattle.java_tree.specs.declared.occurrence.FieldId.{FieldId}
use Rattle.java_tree.specs.declared.occurrence.TypeId.{TypeId}
use Rattle.java_tree.specs.declared.types.JType.{JType}
use Rattle.java_tree.specs.declared.types.JType.TheVariants as types
use Rattle.java_tree.specs.declared.types.NameKind.{NameKind}
use Rattle.java_tree.specs.declared.types.NameKind.TheVariants as kinds
use Rattle.java_model.specs.Names.Lists.{Identifier, Identifiers, with_dots, the_one, otherwise}
use Rattle.java_model.specs.Names.Environments.{Env, Declared, id_of, type_named, is_known_package}
use Rattle.java_model.specs.Names.Fields.{fields, field_named, field_at, declared_fields}
use Rattle.java_model.specs.Names.MemberTypes.{member_types}
use Rattle.java_model.specs.Names.TypeNames.{Ask, class_of, next_types}
use Rattle.java_model.specs.Names.Supertypes.{count, header_ask, resolve_in_header}
use Rattle.java_model.specs.Scopes.Contexts.{Context, innermost, resolve_at, type_scope}
use Rattle.java_model.specs.Scopes.NameKinds.{kind_or_nothing, package_kind, type_kind, field_kind, field_kind_among, selected_field, field_type, variable_at, variable_kind, type_or_package, simple_kind, after_package, after_type, next_kind, kinds_after, ambiguous_kinds}
use Rattle.java_model.specs.Scopes.TypeNames.{packages_before, as_package, with_next, members_of, in_package, kinds_from, kinds_by, type_name_kinds, header_kinds, created_kinds, created_type, import_kinds, kinds_in_import}
use Rattle.java_model.specs.Grammar.Forms.{last_or}
use Rattle.java_model.specs.Bindings.Chains.{last_name}
use Rattle.java_model.specs.Occurrences.Laws.{Called}
use Rattle.java_model.proofs.Names.Membership.{Among, among-flat_map, contained}
use Rattle.java_model.proofs.Names.OverloadLaws.{declared_name, fields_have_their_name, named_by}
use Rattle.java_model.proofs.Names.MemberTypeLaws.{AskIsNamed, member_of_named, member_types_named, named_one}
use Rattle.java_model.proofs.Names.TypeNameLaws.{header_types_have_their_name, resolved_types_have_their_name}

-- the type that a type name means at a place, and in a header, has its last identifier
std-last : (x : Identifier) (xs : Identifiers) → std_last (Some x) xs ≡ Some (last_or x xs)
std-last x [] = refl
std-last x (y ∷ xs) = std-last y xs

pub at-place-called : (C : Context) (s : List Bound) (names : Identifiers) (m : TypeId) → resolve_at C s names ≡ types.Class m → Called C.env (last_name names) m
at-place-called C s [] m e = absurd cc
at-place-called C s (x ∷ xs) m e = resolved_types_have_their_name C.env (type_scope C s) (x ∷ xs) m e ∙ std-last x xs

pub in-header-called : (env : Env) (d : Declared) (t : TypeId) (names : Identifiers) (m : TypeId) → resolve_in_header env d t names ≡ types.Class m → Called env (last_name names) m
in-header-called env d t [] m e = absurd cc
in-header-called env d t (x ∷ xs) m e = header_types_have_their_name env d t (x ∷ xs) m e ∙ std-last x xs

abbrev pub KindNamed : Env → Identifier → NameKind → Type 0
KindNamed env name (kinds.Class t) = Called env name t
KindNamed env name (kinds.Field f) = option_map (λ o. o.name) (field_at env f) ≡ Some name
KindNamed env name _ = Unit {0}

abbrev pub KindsNamed : Env → Identifiers → List NameKind → Type 0
KindsNamed env [] [] = Unit {0}
KindsNamed env (x ∷ xs) (k ∷ ks) = KindNamed env x k × KindsNamed env xs ks
KindsNamed env _ _ = ⊥

package-named : (env : Env) (name : Identifier) (b : Bool) → KindNamed env name (cond b kinds.Package kinds.Nothing)
package-named env name true = tt
package-named env name false = tt

one-called : (env : Env) (name : Identifier) (ts : List TypeId) → ((m : TypeId) → Among ts m → Called env name m) → KindNamed env name (kind_or_nothing kinds.Class (the_one ts))
one-called env name [] h = tt
one-called env name (t ∷ []) h = h t (inl refl)
one-called env name (t ∷ u ∷ ts) h = tt

option-named : (env : Env) (name : Identifier) (o : Option NameKind) (f : Unit {0} → Option NameKind)
    → KindNamed env name (kind_or_nothing (λ k. k) o) → KindNamed env name (kind_or_nothing (λ k. k) (f tt))
    → KindNamed env name (kind_or_nothing (λ k. k) (otherwise o f))
option-named env name None f h k = k
option-named env name (Some x) f h k = h

types-named : (env : Env) (name : Identifier) (ts : List TypeId) → ((m : TypeId) → Among ts m → Called env name m) → KindNamed env name (kind_or_nothing (λ k. k) (type_kind ts))
types-named env name [] h = tt
types-named env name (t ∷ ts) h = one-called env name (t ∷ ts) h

-- a field
first-of : {X : Type 0} (xs : List X) (x : X) → slice_get xs 0 ≡ Some x → Among xs x
first-of [] x e = absurd (none-some x e)
first-of (y ∷ xs) x e = inl (same_Some y x e)

pub only-of : {X : Type 0} (xs : List X) (x : X) → the_one xs ≡ Some x → Among xs x
only-of [] x e = absurd (none-some x e)
only-of (y ∷ []) x e = inl (same_Some y x e)
only-of (y ∷ z ∷ xs) x e = absurd (none-some x e)

field-by : (env : Env) (t : TypeId) (name : Identifier) (f : FieldId) (o : Option FieldId) → slice_get (declared_fields env t name) 0 ≡ o
    → option_or o (the_one (fields env t name)) ≡ Some f → option_map (λ o. o.name) (field_at env f) ≡ Some name
field-by env t name f (Some g) h e =
    named_by name (field_at env f) (declared_name env t name f (first-of (declared_fields env t name) f (h ∙ e)))
field-by env t name f None h e = fields_have_their_name env t name f (contained (fields env t name) f (only-of (fields env t name) f e))

field-option : (env : Env) (t : TypeId) (name : Identifier) (o : Option FieldId) → field_named env t name ≡ o → KindNamed env name (kind_or_nothing kinds.Field o)
field-option env t name None e = tt
field-option env t name (Some f) e = field-by env t name f (slice_get (declared_fields env t name) 0) refl e

field-kind-among : (env : Env) (t : TypeId) (name : Identifier) (fs : List FieldId) → KindNamed env name (kind_or_nothing (λ k. k) (field_kind_among env t name fs))
field-kind-among env t name [] = tt
field-kind-among env t name (f ∷ fs) = field-option env t name (field_named env t name) refl

field-kind-named : (env : Env) (t : TypeId) (name : Identifier) → KindNamed env name (kind_or_nothing (λ k. k) (field_kind env t name))
field-kind-named env t name = field-kind-among env t name (fields env t name)

length-named : (env : Env) (name : Identifier) (b : Bool) → KindNamed env name (cond b (kinds.Local (types.Primitive primitives.Int)) kinds.Nothing)
length-named env name true = tt
length-named env name false = tt

pub selected-named : (env : Env) (t : JType) (name : Identifier) → KindNamed env name (selected_field env t name)
selected-named env (types.Class t) name = field-kind-named env t name
selected-named env (types.Array e n) name = length-named env name (bytes_eq name (codes "length"))
selected-named env (types.Primitive p) name = tt
selected-named env types.Void name = tt
selected-named env types.Null name = tt
selected-named env (types.Absent n) name = tt
selected-named env types.Unknown name = tt

-- variables in scope
in-option : (env : Env) (name : Identifier) → Option NameKind → Type 0
in-option env name None = Unit {0}
in-option env name (Some k) = KindNamed env name k

some-option : (env : Env) (name : Identifier) (o : Option NameKind) → in-option env name o → KindNamed env name (kind_or_nothing (λ k. k) o)
unfolding in-option
some-option env name None h = tt
some-option env name (Some k) h = h

option-some : (env : Env) (name : Identifier) (o : Option NameKind) → KindNamed env name (kind_or_nothing (λ k. k) o) → in-option env name o
unfolding in-option
option-some env name None h = tt
option-some env name (Some k) h = h

or-named : (env : Env) (name : Identifier) (o p : Option NameKind) → in-option env name o → in-option env name p → in-option env name (option_or o p)
unfolding in-option
or-named env name None p h k = k
or-named env name (Some x) p h k = h

variable-hit : (env : Env) (name : Identifier) (b : Bool) (t : JType) → in-option env name (cond b (Some (kinds.Local t)) None)
unfolding in-option
variable-hit env name true t = tt
variable-hit env name false t = tt

at-bound : (env : Env) (name : Identifier) (b : Bound) → in-option env name (variable_at env name b)
unfolding in-option
at-bound env name (bounds.Variable n t) = variable-hit env name (bytes_eq name n) t
at-bound env name (bounds.Class t) = tt
at-bound env name (bounds.Members t) = option-some env name (field_kind env t name) (field-kind-named env t name)
at-bound env name (bounds.Arguments t) = tt

in-scope : (env : Env) (name : Identifier) (s : List Bound) → in-option env name (innermost (variable_at env name) s)
unfolding in-option
in-scope env name [] = tt
in-scope env name (b ∷ bs) = or-named env name (innermost (variable_at env name) bs) (variable_at env name b) (in-scope env name bs) (at-bound env name b)

-- a type, else a package
type-named : (env : Env) (t : JType) (name : Identifier) → ((m : TypeId) → t ≡ types.Class m → Called env name m) → KindNamed env name (type_or_package env t name)
type-named env (types.Class t) name h = h t refl
type-named env (types.Primitive p) name h = package-named env name (is_known_package env (name ∷ []))
type-named env types.Void name h = package-named env name (is_known_package env (name ∷ []))
type-named env types.Null name h = package-named env name (is_known_package env (name ∷ []))
type-named env (types.Absent n) name h = package-named env name (is_known_package env (name ∷ []))
type-named env (types.Array e n) name h = package-named env name (is_known_package env (name ∷ []))
type-named env types.Unknown name h = package-named env name (is_known_package env (name ∷ []))

simple-named : (C : Context) (s : List Bound) (name : Identifier) → KindNamed C.env name (simple_kind C s name)
simple-named C s name =
    option-named C.env name (variable_kind C s name) _ (some-option C.env name (variable_kind C s name) (in-scope C.env name s))
    (type-named C.env (resolve_at C s (name ∷ [])) name (λ m e. at-place-called C s (name ∷ []) m e))

after-package-named : (env : Env) (left : Identifiers) (name : Identifier) → KindNamed env name (after_package env left name)
after-package-named env left name =
    option-named env name (type_kind (option_to_list (type_named env (with_dots left) (name ∷ [])))) _
    (types-named env name (option_to_list (type_named env (with_dots left) (name ∷ [])))
    (λ m a. named_one env (with_dots left) name m a))
    (package-named env name (is_known_package env (left ++ name ∷ [])))

after-type-named : (env : Env) (t : TypeId) (name : Identifier) → KindNamed env name (after_type env t name)
after-type-named env t name =
    option-named env name (field_kind env t name) _ (field-kind-named env t name)
    (types-named env name (member_types env t name) (λ m a. member_types_named env t name m a))

next-named : (env : Env) (k : NameKind) (left : Identifiers) (name : Identifier) → KindNamed env name (next_kind env k left name)
next-named env kinds.Package left name = after-package-named env left name
next-named env (kinds.Class t) left name = after-type-named env t name
next-named env (kinds.Field f) left name = selected-named env (field_type env f) name
next-named env (kinds.Local t) left name = selected-named env t name
next-named env kinds.Nothing left name = tt

rest-named : (env : Env) (k : NameKind) (left xs : Identifiers) → KindsNamed env xs (kinds_after env k left xs)
rest-named env k left [] = tt
rest-named env k left (x ∷ xs) = (next-named env k left x, rest-named env (next_kind env k left x) (left ++ x ∷ []) xs)

pub ambiguous-named : (C : Context) (s : List Bound) (xs : Identifiers) → KindsNamed C.env xs (ambiguous_kinds C s xs)
ambiguous-named C s [] = tt
ambiguous-named C s (x ∷ xs) = (simple-named C s x, rest-named C.env (simple_kind C s x) (x ∷ []) xs)

-- type names
one-more : (env : Env) (xs : Identifiers) (ks : List NameKind) (x : Identifier) (k : NameKind) → KindsNamed env xs ks → KindNamed env x k
    → KindsNamed env (xs ++ x ∷ []) (ks ++ k ∷ [])
one-more env [] [] x k h e = (e, tt)
one-more env [] (l ∷ ks) x k h e = absurd h
one-more env (y ∷ xs) [] x k h e = absurd h
one-more env (y ∷ xs) (l ∷ ks) x k h e = (h.0, one-more env xs ks x k h.1 e)

all-packages : (env : Env) (xs : Identifiers) (ks : List NameKind) → KindsNamed env xs ks → KindsNamed env xs (map (λ _. kinds.Package) ks)
all-packages env [] [] h = tt
all-packages env [] (l ∷ ks) h = absurd h
all-packages env (y ∷ xs) [] h = absurd h
all-packages env (y ∷ xs) (l ∷ ks) h = (tt, all-packages env xs ks h.1)

packages-before-named : (env : Env) (xs : Identifiers) (k : NameKind) (ks : List NameKind) → KindsNamed env xs ks → KindsNamed env xs (packages_before k ks)
packages-before-named env xs kinds.Package ks h = all-packages env xs ks h
packages-before-named env xs (kinds.Class t) ks h = h
packages-before-named env xs (kinds.Field f) ks h = h
packages-before-named env xs (kinds.Local t) ks h = h
packages-before-named env xs kinds.Nothing ks h = h

as-package-named : (env : Env) (xs : Identifiers) (ks : List NameKind) → KindsNamed env xs ks → KindsNamed env xs (as_package ks)
as-package-named env xs ks h = packages-before-named env xs (last_or kinds.Nothing ks) ks h

with-next-named : (env : Env) (before : List NameKind) (left : Identifiers) (x : Identifier) (ts us : List TypeId) → KindsNamed env left before
    → ((m : TypeId) → Among ts m → Called env x m) → ((m : TypeId) → Among us m → Called env x m) → KindsNamed env (left ++ x ∷ []) (with_next env before left x ts us)
with-next-named env before left x (t ∷ ts) us h f g = one-more env left before x (kind_or_nothing kinds.Class (the_one (t ∷ ts))) h (one-called env x (t ∷ ts) f)
with-next-named env before left x [] (u ∷ us) h f g = one-more env left (map (λ _. kinds.Package) before) x (kinds.Class u) (all-packages env left before h) (g u (inl refl))
with-next-named env before left x [] [] h f g =
    one-more env left (as_package before) x (package_kind env (left ++ x ∷ [])) (as-package-named env left before h) (package-named env x (is_known_package env (left ++ x ∷ [])))

members-called : (env : Env) (ask : Ask) (left : List TypeId) (x : Identifier) (m : TypeId) → AskIsNamed env ask → Among (members_of ask left x) m → Called env x m
members-called env ask left x m h a = let c = among-flat_map (λ t. ask t x) (option_to_list (the_one left)) m a in h c.0 x m c.2

kinds-from-named : (env : Env) (ask : Ask) (before : List NameKind) (left : List TypeId) (spelled xs : Identifiers) → AskIsNamed env ask → KindsNamed env spelled before
    → KindsNamed env (spelled ++ xs) (kinds_from env ask before left spelled xs)
kinds-from-named env ask before left spelled [] h so = subst (λ ys. KindsNamed env ys before) (sym (append-nil spelled)) so
kinds-from-named env ask before left spelled (x ∷ xs) h so =
    subst (λ ys. KindsNamed env ys (kinds_from env ask before left spelled (x ∷ xs))) (append_assoc spelled (x ∷ []) xs)
    (kinds-from-named env ask (with_next env before spelled x (members_of ask left x) (in_package env spelled x)) (next_types env ask left spelled x) (spelled ++ x ∷ []) xs h
    (with-next-named env before spelled x (members_of ask left x) (in_package env spelled x) so
    (λ m a. members-called env ask left x m h a)
    (λ m a. named_one env (with_dots spelled) x m a)))

kinds-by-named : (env : Env) (ask : Ask) (mean : Identifiers → JType) (xs : Identifiers) → AskIsNamed env ask
    → ((x : Identifier) (m : TypeId) → mean (x ∷ []) ≡ types.Class m → Called env x m) → KindsNamed env xs (kinds_by env ask mean xs)
kinds-by-named env ask mean [] h so = tt
kinds-by-named env ask mean (x ∷ xs) h so =
    kinds-from-named env ask (type_or_package env (mean (x ∷ [])) x ∷ []) (class_of (mean (x ∷ []))) (x ∷ []) xs h (type-named env (mean (x ∷ [])) x (so x), tt)

pub type-name-named : (C : Context) (s : List Bound) (xs : Identifiers) → KindsNamed C.env xs (type_name_kinds C s xs)
type-name-named C s xs = kinds-by-named C.env (member_types C.env) (resolve_at C s) xs (member_types_named C.env) (λ x m e. at-place-called C s (x ∷ []) m e)

pub header-named : (env : Env) (d : Declared) (t : TypeId) (xs : Identifiers) → KindsNamed env xs (header_kinds env d t xs)
header-named env d t xs =
    kinds-by-named env (header_ask env t) (resolve_in_header env d t) xs (member_of_named (count env) env (t ∷ [])) (λ x m e. in-header-called env d t (x ∷ []) m e)

-- the name in a creation
pub created-kinds-named : (C : Context) (s : List Bound) (d : Option Declared) (xs : Identifiers) → KindsNamed C.env xs (created_kinds C s d xs)
created-kinds-named C s None xs = type-name-named C s xs
created-kinds-named C s (Some d) xs = header-named C.env d (id_of d) xs

pub created-called : (C : Context) (s : List Bound) (d : Option Declared) (names : Identifiers) (m : TypeId) → created_type C s d names ≡ types.Class m → Called C.env (last_name names) m
created-called C s None names m e = at-place-called C s names m e
created-called C s (Some d) names m e = in-header-called C.env d (id_of d) names m e

import-named : (env : Env) (xs : Identifiers) → KindsNamed env xs (import_kinds env xs)
import-named env xs = kinds-from-named env (member_types env) [] [] [] xs (member_types_named env) tt

pub in-import-named : (env : Env) (star : Bool) (xs : Identifiers) → KindsNamed env xs (kinds_in_import env star xs)
in-import-named env false xs = import-named env xs
in-import-named env true xs = as-package-named env xs (import_kinds env xs) (import-named env xs)
