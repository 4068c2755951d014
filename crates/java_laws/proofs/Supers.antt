-- The superclass of a class of a unit has the name that its header spells, or is Object.
use Rattle.std.proofs.Common.{◌≡◌, ℕ, Bool, true, false, cond, List, [], ◌∷◌, ◌++◌, Option, Some, None, map, length, slice_get, option_map, option_to_list, unwrap_or, inl, inr, refl, sym, ap, ◌∙◌, true≢false}
use Rattle.std.specs.List.{list_any}
use Rattle.std.specs.Option.{option_map_or}
use Rattle.std.proofs.lemmas.Bool.{or_cases}
use Rattle.std.proofs.lemmas.Option.{none-some, same_Some}
use Rattle.java_tree.specs.declared.names.Ident.{Ident}
use Rattle.java_tree.specs.declared.occurrence.TypeId.{TypeId}
use Rattle.java_tree.specs.declared.outline.TypeKind.TheVariants as kinds
use Rattle.java_tree.specs.declared.types.JType.{JType}
use Rattle.java_tree.specs.declared.types.JType.TheVariants as types
use Rattle.java_tree.specs.declared.unit.ClassHead.{ClassHead}
use Rattle.java_tree.specs.declared.unit.TypeDecl.{TypeDecl}
use Rattle.java_tree.specs.declared.unit.TypeHead.TheVariants as heads
use Rattle.java_tree.specs.declared.unit.Unit.{Unit as CompilationUnit}
use Rattle.java_model.specs.Outlines.{spelled_name, spelled_names, optional_name, headed}
use Rattle.java_model.specs.Names.Lists.{Identifiers, with_dots, otherwise}
use Rattle.java_model.specs.Names.Environments.{Env, Declared, declared, declared_by, name_at, with_java_lang, undeclared, is_java_lang, is_named, java_lang, object_name, string_name, type_named, type_id, object}
use Rattle.java_model.specs.Names.TypeNames.{meaning, or_absent, on_demand}
use Rattle.java_model.specs.Names.MemberTypes.{member_types}
use Rattle.java_model.specs.Names.Supertypes.{header_ask, header_supers, supers_by, supers_of, supers, is_on_cycle, superclass, or_object, resolve_in_header}
use Rattle.java_model.specs.Scopes.Contexts.{Context, numbered_id, resolve_at}
use Rattle.java_model.specs.Bindings.Calls.{super_type}
use Rattle.java_model.specs.Bindings.Chains.{last_name}
use Rattle.java_model.specs.Occurrences.Laws.{Called}
use Rattle.java_model.specs.Occurrences.Declarations.{superclass_name}
use Rattle.java_model.proofs.KindLaws.{at-place-called, in-header-called}
use Rattle.java_model.proofs.SpelledLaws.{TypeCalled}
use Rattle.java_laws.proofs.Lists.{Among, among-left, among-right}
use Rattle.java_laws.proofs.Bound.{found}
use Rattle.java_laws.proofs.Numbers.{HasPlace, one_of}

-- OBJECT
passes : {X : Type 0} (p : X → Bool) (xs : List X) → list_any p xs ≡ true → (x : X) × Among xs x × (p x ≡ true)
passes p [] h = absurd (true≢false (sym h))
passes p (x ∷ xs) h = elim (or_cases (p x) (list_any p xs) h) [
  | inl e ↦ (x, inl refl, e)
  | inr e ↦ let r = passes p xs e in (r.0, inr r.1, r.2)
]

HasObject : List Declared → Type 0
HasObject ds = (d : Declared) × Among ds d × (is_java_lang object_name d ≡ true)

with-object : (ds : List Declared) (b : Bool) → list_any (is_java_lang object_name) ds ≡ b
    → HasObject (cond b ds (ds ++ undeclared (length ds) object_name ∷ []))
unfolding HasObject
with-object ds true e = passes (is_java_lang object_name) ds e
with-object ds false e = (
  undeclared (length ds) object_name,
  among-right ds (undeclared (length ds) object_name
      ∷ []) (undeclared (length ds) object_name) (inl refl),
  refl,
)

with-string : (ds : List Declared) (b : Bool) → HasObject ds → HasObject (cond b ds (ds ++ undeclared (length ds) string_name ∷ []))
unfolding HasObject
with-string ds true h = h
with-string ds false h = (h.0, among-left ds (undeclared (length ds) string_name ∷ []) h.0 h.1, h.2)

has-object : (env : Env) → HasObject (declared env)
has-object env =
    let own = declared_by 0 env in
    let ds = with_java_lang object_name own in
    with-string ds (list_any (is_java_lang string_name) ds) (with-object own (list_any (is_java_lang object_name) own) refl)

object-found : (env : Env) → (t : TypeId) × (type_named env (with_dots java_lang) (object_name ∷ []) ≡ Some t)
unfolding HasObject
object-found env =
    let h = has-object env in
    let r = found (is_named (with_dots java_lang) (object_name ∷ [])) (declared env) h.0 h.1 h.2 in
    (type_id r.0, ap (option_map type_id) r.1)

-- a unit of `java.lang` without types
abbrev in_lang : Env → Context
in_lang env = record { env = env; outline = record { «package» = java_lang; imports = []; types = [] }; first = 0; types = [] }

object-resolved : (env : Env) (t : TypeId) → type_named env (with_dots java_lang) (object_name ∷ []) ≡ Some t
    → resolve_at (in_lang env) [] (object_name ∷ []) ≡ types.Class t
object-resolved env t e = ap (λ o. or_absent (object_name
    ∷ []) (otherwise (meaning (object_name ∷ []) (option_to_list o)) (λ _. meaning (object_name
    ∷ []) (on_demand env (member_types env) (in_lang env).outline object_name)))) e

pub object-named : (env : Env) → name_at env (object env) ≡ Some object_name
object-named env =
    let r = object-found env in
    ap (λ o. name_at env (unwrap_or o (type_id 0))) r.1 ∙ at-place-called (in_lang env) [] (object_name ∷ []) r.0 (object-resolved env r.0 r.1)

-- THE SUPERCLASS of a type with this outline
only-some : (o : Option JType) (k : TypeId) → option_map_or (λ u. u) o types.Unknown ≡ types.Class k → o ≡ Some (types.Class k)
only-some None k e = absurd cc
only-some (Some t) k e = ap Some e

where-true : {X : Type 0} (b : Bool) (o : Option X) (x : X) → cond b o None ≡ Some x → o ≡ Some x
where-true true o x e = e
where-true false o x e = absurd (none-some x e)

not-absent : (k : TypeId) → Some (types.Absent []) ≡ Some (types.Class k) → ⊥
not-absent k e = cc

off-cycle : (b : Bool) (hs : List JType) (k : TypeId) → slice_get (cond b (types.Absent [] ∷ []) hs) 0 ≡ Some (types.Class k)
    → slice_get hs 0 ≡ Some (types.Class k)
off-cycle true hs k e = absurd (not-absent k e)
off-cycle false hs k e = e

not-object : (b : Bool) (hs : List JType) (t : JType) → slice_get (cond b [] hs) 0 ≡ Some t → slice_get hs 0 ≡ Some t
not-object true hs t e = absurd (none-some t e)
not-object false hs t e = e

same-class : (k m : TypeId) → types.Class k ≡ types.Class m → k ≡ m
same-class k m e = cc

first-super : (env : Env) (mean : Identifiers → JType) (c : ClassHead) (k : TypeId)
    → ((n : List Ident) → mean (spelled_name n) ≡ types.Class k → Called env (last_name (spelled_name n)) k)
    → slice_get (supers_by env mean kinds.Class (optional_name c.extends) (spelled_names c.implements)) 0 ≡ Some (types.Class k)
    → name_at env k ≡ Some (superclass_name (Some (heads.Class c)))
first-super env mean c k named e = by c.extends named e
  where
    by : (extends : Option (List Ident)) → ((n : List Ident) → mean (spelled_name n) ≡ types.Class k → Called env (last_name (spelled_name n)) k)
        → slice_get (or_object env (map mean (optional_name extends)) ++ map mean (spelled_names c.implements)) 0 ≡ Some (types.Class k)
        → name_at env k ≡ Some (option_map_or (λ n. n) (option_map (λ n. last_name (spelled_name n)) extends) object_name)
    by None named e = ap (name_at env) (sym (same-class (object env) k (same_Some (types.Class (object env)) (types.Class k) e))) ∙ object-named env
    by (Some n) named e = named n (same_Some (mean (spelled_name n)) (types.Class k) e)

pub super-called : (u : CompilationUnit) (C : Context) (n : ℕ) (t : TypeDecl) (c : ClassHead) → HasPlace u C n t → t.head ≡ heads.Class c
    → TypeCalled C.env (superclass_name (Some (heads.Class c))) (super_type C.env (types.Class (numbered_id C n)))
super-called u C n t c h is k e =
    let T = numbered_id C n in
    let d = one_of h.doc C.outline C.first n h.outline in
    let mean = resolve_in_header C.env d T in
    let a = where-true _ (slice_get (supers C.env T) 0) (types.Class k) (only-some (superclass C.env T) k e) in
    let b : slice_get (header_supers C.env T) 0 ≡ Some (types.Class k) = off-cycle (is_on_cycle C.env T) (header_supers C.env T) k a in
    let f : slice_get (supers_of C.env (header_ask C.env T) d) 0 ≡ Some (types.Class k)
    = sym (ap (λ o. slice_get (option_map_or (supers_of C.env (header_ask C.env T)) o []) 0) h.at) ∙ b in
    let g : slice_get (supers_by C.env mean h.outline.kind h.outline.extends h.outline.implements) 0 ≡ Some (types.Class k)
    = not-object (is_java_lang object_name d) _ (types.Class k) f in
    let headed_so : ◌≡◌ {A = List JType} (supers_by C.env mean h.outline.kind h.outline.extends h.outline.implements)
    (supers_by C.env mean kinds.Class (optional_name c.extends) (spelled_names c.implements))
    = ap (λ o. supers_by C.env mean o.kind o.extends o.implements) h.of_type.is
    ∙ ap (λ x. supers_by C.env mean (headed h.of_type.hole x).kind (headed h.of_type.hole x).extends (headed h.of_type.hole x).implements) is in
    first-super C.env mean c k (λ m f. in-header-called C.env d T (spelled_name m) k f) (sym (ap (λ ts. slice_get ts 0) headed_so) ∙ g)
