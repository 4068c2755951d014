-- The member types of a name have that name.
use Rattle.std.proofs.Common.{◌≡◌, ℕ, zero, suc, Bool, true, false, cond, not, ◌&&◌, List, [], ◌∷◌, find, filter, flat_map, slice_get, bytes_eq, Option, Some, None, option_map, option_to_list, inl, inr, refl, sym, ap, ◌∙◌, subst, true≢false}
use Rattle.std.specs.Option.{option_map_or}
use Rattle.std.proofs.lemmas.Option.{same_Some}
use Rattle.java_tree.specs.declared.occurrence.TypeId.{TypeId}
use Rattle.java_model.specs.Names.Lists.{Identifier, unless, is_among}
use Rattle.java_model.specs.Names.Environments.{Env, Declared, declared, name_at, type_named, is_local, parent_of, same_id, ids, first_declaration}
use Rattle.java_model.specs.Names.TypeNames.{Ask, class_of}
use Rattle.java_model.specs.Names.Supertypes.{count, is_member_type, declared_types, inherited_types, inherits_type, known_supers, supers_asking, member_of}
use Rattle.java_model.specs.Names.MemberTypes.{member_types_by, member_types}
use Rattle.java_model.specs.Names.Laws.{MemberTypesHaveTheirName}
use Rattle.java_model.proofs.Names.Membership.{Among, among, among-filter, among-flat_map, among-from_test, among-fresh}
use Rattle.java_model.proofs.Names.Numbering.{type_named_name, first_declaration_name}
use Rattle.java_model.proofs.Names.MemberLaws.{or_else_cases}
use Rattle.java_model.proofs.Names.SupertypeLaws.{same_id-sound}
use Rattle.java_model.proofs.Names.OverloadLaws.{same_bytes}

-- all types of a list have this name
abbrev pub AreNamed : Env → Option Identifier → List TypeId → Type 0
AreNamed env name ts = (t : TypeId) → Among ts t → name_at env t ≡ name

abbrev pub AskIsNamed : Env → Ask → Type 0
AskIsNamed env ask = (t : TypeId) (name : Identifier) → AreNamed env (Some name) (ask t name)

found_place_by : (p : Declared → Bool) (x : Declared) (xs : List Declared) (d : Declared) (b : Bool) → p x ≡ b → cond b (Some x) (find p xs) ≡ Some d
    → (find p xs ≡ Some d → (i : ℕ) × (slice_get xs i ≡ Some d) × (p d ≡ true)) → (i : ℕ) × (slice_get (x ∷ xs) i ≡ Some d) × (p d ≡ true)
found_place_by p x xs d true h e rest = (0, e, subst (λ y. p y ≡ true) (same_Some x d e) h)
found_place_by p x xs d false h e rest = let r = rest e in (suc r.0, r.1, r.2)

found_place : (p : Declared → Bool) (xs : List Declared) (d : Declared) → find p xs ≡ Some d → (i : ℕ) × (slice_get xs i ≡ Some d) × (p d ≡ true)
found_place p [] d e = absurd cc
found_place p (x ∷ xs) d e = found_place_by p x xs d (p x) refl e (found_place p xs d)

among_option : (o : Option TypeId) (t : TypeId) → Among (option_to_list o) t → o ≡ Some t
among_option None t a = absurd a
among_option (Some u) t (inl e) = ap Some e
among_option (Some u) t (inr a) = absurd a

-- a type of a package
pub named_one : (env : Env) (q : List ℕ) (name : Identifier) → AreNamed env (Some name) (option_to_list (type_named env q (name ∷ [])))
named_one env q name t a = type_named_name env q (name ∷ []) t (among_option (type_named env q (name ∷ [])) t a)

-- declared member types
middle : (a b c : Bool) → (a && b && c) ≡ true → b ≡ true
middle false b c h = absurd (true≢false (sym h))
middle true false c h = absurd (true≢false (sym h))
middle true true c h = refl

declared_by_find : (env : Env) (u : TypeId) (name : Identifier) (o : Option Declared) → find (is_member_type u name) (declared env) ≡ o
    → AreNamed env (Some name) (option_to_list (option_map (first_declaration env) o))
declared_by_find env u name None e t a = absurd a
declared_by_find env u name (Some d) e t a =
    let r = found_place (is_member_type u name) (declared env) d e in
    let called : name ≡ d.type.name = same_bytes name d.type.name
    (middle (not (is_local d.type)) (bytes_eq name d.type.name) (option_map_or (same_id u) (parent_of d) false) r.2) in
    ap (name_at env) (sym (same_Some (first_declaration env d) t (among_option (Some (first_declaration env d)) t a)))
    ∙ first_declaration_name env r.0 d r.1 ∙ ap Some (sym called)

pub declared_types_named : (env : Env) → AskIsNamed env (declared_types env)
declared_types_named env u name = declared_by_find env u name (find (is_member_type u name) (declared env)) refl

-- inherited ones
pub inherited_named : (env : Env) (ask : Ask) → AskIsNamed env ask → (u : TypeId) (name : Identifier) (supers : List TypeId)
    → AreNamed env (Some name) (inherited_types env ask u name supers)
inherited_named env ask h u name supers t a =
    let found = flat_map (λ s. ask s name) supers in
    let b = among-filter (inherits_type env u) found t (among-fresh same_id [] (filter (inherits_type env u) found) t a) in
    let r = among-flat_map (λ s. ask s name) supers t b.0 in
    h r.0 name t r.2

unless_among : (b : Bool) (f : Unit {0} → List TypeId) (t : TypeId) → Among (unless b f) t → Among (f tt) t
unless_among true f t a = absurd a
unless_among false f t a = a

pub member_of_named : (d : ℕ) (env : Env) (hand : List TypeId) → AskIsNamed env (member_of d env hand)
member_of_named zero env hand u name t a = declared_types_named env u name t a
member_of_named (suc d) env hand u name t a = elim (or_else_cases (declared_types env u name) _ t a) [
  | inl b ↦ declared_types_named env u name t b
  | inr b ↦ inherited_named env (member_of d env (u ∷ hand)) (member_of_named d env (u ∷ hand)) u name
      (flat_map class_of (supers_asking env (member_of d env (u ∷ hand)) u)) t (unless_among (is_among same_id u hand) _ t b)
]

member_types_by_named : (d : ℕ) (env : Env) → AskIsNamed env (member_types_by d env)
member_types_by_named zero env u name t a = declared_types_named env u name t a
member_types_by_named (suc d) env u name t a = elim (or_else_cases (declared_types env u name) _ t a) [
  | inl b ↦ declared_types_named env u name t b
  | inr b ↦ inherited_named env (member_types_by d env) (member_types_by_named d env) u name (known_supers env u) t b
]

pub member_types_named : (env : Env) → AskIsNamed env (member_types env)
member_types_named env u name t a =
    let r = among-filter (λ m. is_among same_id m (member_types_by (count env) env u name)) (ids env) t a in
    member_types_by_named (count env) env u name t (among-from_test same_id same_id-sound t (member_types_by (count env) env u name) r.1)

pub member_types_have_their_name : MemberTypesHaveTheirName
member_types_have_their_name env t name m c = member_types_named env t name m (among (member_types env t name) m c)
