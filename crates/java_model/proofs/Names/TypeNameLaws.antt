-- A type that a name means has the last identifier as its name.
use Rattle.std.proofs.Common.{◌≡◌, Bool, true, false, cond, not, List, [], ◌∷◌, ◌++◌, find, flat_map, bytes_eq, Option, Some, None, option_map, option_to_list, inl, inr, refl, sym, ap, ◌∙◌, subst, true≢false}
use Rattle.std.specs.Option.{option_map_or}
use Rattle.std.specs.List.{last_or}
use Rattle.std.proofs.lemmas.Bool.{and_parts}
use Rattle.std.proofs.lemmas.Option.{same_Some}
use Rattle.java_tree.specs.declared.occurrence.TypeId.{TypeId}
use Rattle.java_tree.specs.declared.outline.ImportName.{ImportName}
use Rattle.java_tree.specs.declared.outline.Outline.{Outline}
use Rattle.java_tree.specs.declared.types.JType.{JType}
use Rattle.java_tree.specs.declared.types.JType.TheVariants as types
use Rattle.java_model.specs.Names.Lists.{Identifier, Identifiers, with_dots, otherwise, the_one}
use Rattle.java_model.specs.Names.Environments.{Env, Declared, declared_at, name_at, type_named, same_id, java_lang}
use Rattle.java_model.specs.Names.TypeNames.{Ask, TypeBound, LocalClass, Body, TypeScope, is_called, types_at, types_within, meaning, or_absent, class_of, next_types, types_after, import_types, imports_name, imported, in_imported_type, on_demand_by, on_demand, of_package, simple_type, resolve_by, header_scope}
use Rattle.java_model.specs.Names.Supertypes.{count, header_ask}
use Rattle.java_model.specs.Names.MemberTypes.{member_types}
use Rattle.java_model.specs.Names.Laws.{ResolvedTypesHaveTheirName, HeaderTypesHaveTheirName}
use Rattle.java_model.proofs.Names.Membership.{among-append, among-flat_map, among-fresh}
use Rattle.java_model.proofs.Names.MemberLaws.{or_else_cases}
use Rattle.java_model.proofs.Names.OverloadLaws.{same_bytes}
use Rattle.java_model.proofs.Names.MemberTypeLaws.{AreNamed, AskIsNamed, named_one, member_of_named, member_types_named}

-- what bounds give
called_by : (name : Identifier) (o : Option Declared) → option_map_or (λ d. bytes_eq name d.type.name) o false ≡ true → option_map (λ d. d.type.name) o ≡ Some name
called_by name None e = absurd (true≢false (sym e))
called_by name (Some d) e = ap Some (sym (same_bytes name d.type.name e))

local_named : (env : Env) (name : Identifier) (u : TypeId) (b : Bool) → is_called env name u ≡ b → AreNamed env (Some name) (cond b (u ∷ []) [])
local_named env name u true e t (inl s) = ap (name_at env) (sym s) ∙ called_by name (declared_at env u) e
local_named env name u true e t (inr a) = absurd a
local_named env name u false e t a = absurd a

at_bound_named : (env : Env) (ask : Ask) → AskIsNamed env ask → (name : Identifier) (b : TypeBound) → AreNamed env (Some name) (types_at env ask name b)
at_bound_named env ask h name (LocalClass u) = local_named env name u (is_called env name u) refl
at_bound_named env ask h name (Body u) = h u name

within_named : (env : Env) (ask : Ask) → AskIsNamed env ask → (name : Identifier) (bs : List TypeBound) → AreNamed env (Some name) (types_within env ask name bs)
within_named env ask h name [] t a = absurd a
within_named env ask h name (b ∷ bs) t a = elim (or_else_cases (types_at env ask name b) _ t a) [
  | inl c ↦ at_bound_named env ask h name b t c
  | inr c ↦ within_named env ask h name bs t c
]

-- qualified names
next_named : (env : Env) (ask : Ask) → AskIsNamed env ask → (left : List TypeId) (spelled : Identifiers) (name : Identifier)
    → AreNamed env (Some name) (next_types env ask left spelled name)
next_named env ask h left spelled name t a = elim (or_else_cases (flat_map (λ u. ask u name) (option_to_list (the_one left))) _ t a) [
  | inl b ↦ let r = among-flat_map (λ u. ask u name) (option_to_list (the_one left)) t b in h r.0 name t r.2
  | inr b ↦ named_one env (with_dots spelled) name t b
]

after_named : (env : Env) (ask : Ask) → AskIsNamed env ask → (left : List TypeId) (spelled names : Identifiers) (n : Option Identifier)
    → AreNamed env n left → AreNamed env (last_or n names) (types_after env ask left spelled names)
after_named env ask h left spelled [] n l = l
after_named env ask h left spelled (x ∷ xs) n l =
    after_named env ask h (next_types env ask left spelled x) (spelled ++ x ∷ []) xs (Some x) (next_named env ask h left spelled x)

import_named : (env : Env) (ask : Ask) → AskIsNamed env ask → (names : Identifiers) → AreNamed env (last_or None names) (import_types env ask names)
import_named env ask h names = after_named env ask h [] [] names None (λ t a. absurd a)

-- what they mean
abbrev pub Means : Env → Option Identifier → JType → Type 0
Means env n m = (t : TypeId) → m ≡ types.Class t → name_at env t ≡ n

abbrev MayMean : Env → Option Identifier → Option JType → Type 0
MayMean env n o = (t : TypeId) → o ≡ Some (types.Class t) → name_at env t ≡ n

same_class : (t u : TypeId) → types.Class t ≡ types.Class u → t ≡ u
same_class t u e = cc

meaning_named : (env : Env) (n : Option Identifier) (spelled : Identifiers) (ts : List TypeId) → AreNamed env n ts → MayMean env n (meaning spelled ts)
meaning_named env n spelled [] h t e = absurd cc
meaning_named env n spelled (u ∷ []) h t e = h t (inl (same_class u t (same_Some (types.Class u) (types.Class t) e)))
meaning_named env n spelled (u ∷ v ∷ ts) h t e = absurd cc

or_absent_named : (env : Env) (n : Option Identifier) (spelled : Identifiers) (o : Option JType) → MayMean env n o → Means env n (or_absent spelled o)
or_absent_named env n spelled None h t e = absurd cc
or_absent_named env n spelled (Some m) h t e = h t (ap Some e)

otherwise_named : (env : Env) (n : Option Identifier) (o : Option JType) (f : Unit {0} → Option JType) → MayMean env n o → MayMean env n (f tt) → MayMean env n (otherwise o f)
otherwise_named env n None f h g = g
otherwise_named env n (Some m) f h g = h

-- imports
last_is : (name : Identifier) (o : Option Identifier) → option_map_or (bytes_eq name) o false ≡ true → o ≡ Some name
last_is name None e = absurd (true≢false (sym e))
last_is name (Some x) e = ap Some (sym (same_bytes name x e))

found_passes_by : (p : ImportName → Bool) (x : ImportName) (xs : List ImportName) (i : ImportName) (b : Bool) → p x ≡ b → cond b (Some x) (find p xs) ≡ Some i
    → (find p xs ≡ Some i → p i ≡ true) → p i ≡ true
found_passes_by p x xs i true h e rest = subst (λ y. p y ≡ true) (same_Some x i e) h
found_passes_by p x xs i false h e rest = rest e

found_passes : (p : ImportName → Bool) (xs : List ImportName) (i : ImportName) → find p xs ≡ Some i → p i ≡ true
found_passes p [] i e = absurd cc
found_passes p (x ∷ xs) i e = found_passes_by p x xs i (p x) refl e (found_passes p xs i)

imported_by : (env : Env) (ask : Ask) → AskIsNamed env ask → (o : Outline) (name : Identifier) (f : Option ImportName) → find (imports_name name) o.imports ≡ f
    → MayMean env (Some name) (option_map (λ i. or_absent i.name (meaning i.name (import_types env ask i.name))) f)
imported_by env ask h o name None e t m = absurd cc
imported_by env ask h o name (Some i) e t m =
    let last : last_or None i.name ≡ Some name = last_is name (last_or None i.name)
    (and_parts (not i.star) (option_map_or (bytes_eq name) (last_or None i.name) false) (found_passes (imports_name name) o.imports i e)).1 in
    or_absent_named env (last_or None i.name) i.name (meaning i.name (import_types env ask i.name))
    (meaning_named env (last_or None i.name) i.name (import_types env ask i.name) (import_named env ask h i.name)) t
    (same_Some (or_absent i.name (meaning i.name (import_types env ask i.name))) (types.Class t) m) ∙ last

in_imported_named : (env : Env) (ask : Ask) → AskIsNamed env ask → (spelled : Identifiers) (name : Identifier) (ts : List TypeId)
    → AreNamed env (Some name) (in_imported_type env ask spelled name ts)
in_imported_named env ask h spelled name [] = named_one env (with_dots spelled) name
in_imported_named env ask h spelled name (t ∷ []) = h t name
in_imported_named env ask h spelled name (t ∷ u ∷ ts) = named_one env (with_dots spelled) name

on_demand_by_named : (env : Env) (ask : Ask) → AskIsNamed env ask → (name : Identifier) (i : ImportName) (b : Bool)
    → AreNamed env (Some name) (cond b (in_imported_type env ask i.name name (import_types env ask i.name)) [])
on_demand_by_named env ask h name i true = in_imported_named env ask h i.name name (import_types env ask i.name)
on_demand_by_named env ask h name i false = λ t a. absurd a

on_demand_named : (env : Env) (ask : Ask) → AskIsNamed env ask → (o : Outline) (name : Identifier) → AreNamed env (Some name) (on_demand env ask o name)
on_demand_named env ask h o name t a =
    let all = flat_map (on_demand_by env ask name) o.imports in
    let lang = option_to_list (type_named env (with_dots java_lang) (name ∷ [])) in
    elim (among-append all lang t (among-fresh same_id [] (all ++ lang) t a)) [
      | inl b ↦ let r = among-flat_map (on_demand_by env ask name) o.imports t b in on_demand_by_named env ask h name r.0 r.0.star t r.2
      | inr b ↦ named_one env (with_dots java_lang) name t b
    ]

simple_named : (env : Env) (ask : Ask) → AskIsNamed env ask → (s : TypeScope) (name : Identifier) → Means env (Some name) (simple_type env ask s name)
simple_named env ask h s name =
    let n = Some name in let spelled = name ∷ [] in
    or_absent_named env n spelled _
    (otherwise_named env n (meaning spelled (types_within env ask name s.bounds)) _
    (meaning_named env n spelled (types_within env ask name s.bounds) (within_named env ask h name s.bounds))
    (otherwise_named env n (imported env ask s.outline name) _
    (imported_by env ask h s.outline name (find (imports_name name) s.outline.imports) refl)
    (otherwise_named env n (meaning spelled (of_package env s.outline name)) _
    (meaning_named env n spelled (of_package env s.outline name) (named_one env (with_dots s.outline.«package») name))
    (meaning_named env n spelled (on_demand env ask s.outline name) (on_demand_named env ask h s.outline name)))))

class_named : (env : Env) (n : Option Identifier) (m : JType) → Means env n m → AreNamed env n (class_of m)
class_named env n (types.Class u) h t (inl e) = h t (ap types.Class e)
class_named env n (types.Class u) h t (inr a) = absurd a
class_named env n (types.Primitive p) h t a = absurd a
class_named env n types.Void h t a = absurd a
class_named env n types.Null h t a = absurd a
class_named env n (types.Absent m) h t a = absurd a
class_named env n (types.Array e d) h t a = absurd a
class_named env n types.Unknown h t a = absurd a

pub resolve_named : (env : Env) (ask : Ask) → AskIsNamed env ask → (s : TypeScope) (names : Identifiers) → Means env (last_or None names) (resolve_by env ask s names)
resolve_named env ask h s [] = λ t e. absurd cc
resolve_named env ask h s (x ∷ []) = simple_named env ask h s x
resolve_named env ask h s (x ∷ y ∷ ys) =
    let left = class_of (simple_type env ask s x) in
    or_absent_named env (last_or None (x ∷ y ∷ ys)) (x ∷ y ∷ ys) (meaning (x ∷ y ∷ ys) (types_after env ask left (x ∷ []) (y ∷ ys)))
    (meaning_named env (last_or None (x ∷ y ∷ ys)) (x ∷ y ∷ ys) (types_after env ask left (x ∷ []) (y ∷ ys))
    (after_named env ask h left (x ∷ []) (y ∷ ys) (Some x) (class_named env (Some x) (simple_type env ask s x) (simple_named env ask h s x))))

pub resolved_types_have_their_name : ResolvedTypesHaveTheirName
resolved_types_have_their_name env s names t e = resolve_named env (member_types env) (member_types_named env) s names t e

pub header_types_have_their_name : HeaderTypesHaveTheirName
header_types_have_their_name env d u names t e =
    resolve_named env (header_ask env u) (member_of_named (count env) env (u ∷ [])) (header_scope d) names t e
