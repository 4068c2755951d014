-- The document that declares a type.
use Rattle.std.proofs.Common.{◌≡◌, ◌+◌, ◌-◌, ◌<◌, ℕ, zero, suc, Bool, true, false, cond, List, [], ◌∷◌, ◌++◌, Option, Some, None, ◌⊎◌, inl, inr, map, length, get_or, option_map, bytes_eq, ◌&&◌, refl, sym, ap, ◌∙◌, subst, arith, true≢false}
use Rattle.std.specs.Prelude.{slice_get}
use Rattle.std.specs.List.{list_any}
use Rattle.std.specs.List.Sorted.{IsStrictlySortedBy}
use Rattle.std.specs.Option.{option_and_then}
use Rattle.std.proofs.lemmas.Bool.{cases_order}
use Rattle.std.proofs.lemmas.Option.{none-some, same_Some, slice_get-map, slice_get-get_or, slice_get_within, get_or_from_slice_get}
use Rattle.std.proofs.lemmas.Slice.Eq.{bytes_eq-Decides}
use Rattle.java_tree.specs.declared.occurrence.TypeId.{TypeId}
use Rattle.java_tree.specs.declared.outline.Outline.{Outline}
use Rattle.java_tree.specs.declared.outline.OutlineType.{OutlineType}
use Rattle.java_tree.specs.declared.types.DocPath.{DocPath}
use Rattle.java_model.specs.Names.Lists.{Identifier}
use Rattle.java_model.specs.Names.Environments.{Env, EnvDocument, Declared, declared, declared_at, declared_by, declared_in, is_java_lang, object_name, string_name, same_path, undeclared, with_java_lang}
use Rattle.java_types.specs.Documents.{AreInOrder, HasNone, IsPlaceOf, document_of, path_cmp}
use Rattle.java_types.specs.Entries.{entry_of, has_no_document}
use Rattle.java_types.specs.declared.documents.KeptDocument.{KeptDocument}
use Rattle.java_types.specs.declared.entry.Entry.{Entry}
use Rattle.java_types.proofs.Declaring.{one}
use Rattle.java_types.proofs.Numbers.{own_id}
use Rattle.java_types.proofs.Paths.{paths_of, below_later, only_earlier}

split : {X : Type 0} (xs ys : List X) (i : ℕ) (d : X) → slice_get (xs ++ ys) i ≡ Some d → ((j : ℕ) × (slice_get xs j ≡ Some d)) ⊎ ((j : ℕ) × (slice_get ys j ≡ Some d))
split [] ys i d e = inr (i, e)
split (x ∷ xs) ys zero d e = inl (zero, e)
split (x ∷ xs) ys (suc i) d e = elim (split xs ys i d e) [
  | inl r ↦ inl (suc r.0, r.1)
  | inr r ↦ inr r
]

in_document : (doc : Option DocPath) (o : Outline) (first k : ℕ) (ts : List OutlineType) → ((j : ℕ) (t : OutlineType) → slice_get ts j ≡ Some t → slice_get o.types (k + j) ≡ Some t)
    → (i : ℕ) (d : Declared) → slice_get (declared_in doc o first k ts) i ≡ Some d → (d.doc ≡ doc) × (d.outline ≡ o) × (slice_get o.types d.number ≡ Some d.type)
in_document doc o first k [] all i d e = absurd (none-some d e)
in_document doc o first k (t ∷ ts) all zero d e =
    let same = sym (same_Some (one doc o first k t) d e) in
    let at : slice_get o.types k ≡ Some t = ap (slice_get o.types) (let z : k ≡ k + 0 = omega arith in z) ∙ all 0 t refl in (
      ap (λ (y : Declared). y.doc) same,
      ap (λ (y : Declared). y.outline) same,
      subst (λ (y : Declared). slice_get o.types y.number ≡ Some y.type) (sym same) at,
    )
in_document doc o first k (t ∷ ts) all (suc i) d e =
    in_document doc o first (k + 1) ts (λ j u f. ap (slice_get o.types) (let z : (k + 1) + j ≡ k + suc j = omega arith in z) ∙ all (suc j) u f) i d e

pub record HasHome (env : Env) (d : Declared) : Type 0 where
  pub place : ℕ
  pub document : EnvDocument
  pub at : slice_get env place ≡ Some document
  pub path : d.doc ≡ Some document.path
  pub outline : d.outline ≡ document.outline
  pub type : slice_get document.outline.types d.number ≡ Some d.type

home_by : (first : ℕ) (ds : List EnvDocument) (i : ℕ) (d : Declared) → slice_get (declared_by first ds) i ≡ Some d → HasHome ds d
home_by first [] i d e = absurd (none-some d e)
home_by first (x ∷ ds) i d e =
    elim (split (declared_in (Some x.path) x.outline first 0 x.outline.types) (declared_by (first + length x.outline.types) ds) i d e) [
      | inl r ↦ let p = in_document (Some x.path) x.outline first 0 x.outline.types (λ j t f. ap (slice_get x.outline.types) (let z : 0 + j ≡ j = omega arith in z) ∙ f) r.0 d r.1 in
          record { place = 0; document = x; at = refl; path = p.0; outline = p.1; type = p.2 }
      | inr r ↦ let h = home_by (first + length x.outline.types) ds r.0 d r.1 in
          record { place = suc h.place; document = h.document; at = h.at; path = h.path; outline = h.outline; type = h.type }
    ]

-- a class of `java.lang` that no document declares
pub data IsUndeclared (d : Declared) : Type 0 where
  is_object : (n : ℕ) → d ≡ undeclared n object_name → IsUndeclared d
  is_string : (n : ℕ) → d ≡ undeclared n string_name → IsUndeclared d

with_one : (name : Identifier) (ds : List Declared) (b : Bool) (i : ℕ) (d : Declared) → slice_get (cond b ds (ds ++ undeclared (length ds) name ∷ [])) i ≡ Some d
    → ((j : ℕ) × (slice_get ds j ≡ Some d)) ⊎ (d ≡ undeclared (length ds) name)
with_one name ds true i d e = inl (i, e)
with_one name ds false i d e = elim (split ds (undeclared (length ds) name ∷ []) i d e) [
  | inl r ↦ inl r
  | inr r ↦ inr (only r.0 r.1)
]
  where
    only : (j : ℕ) → slice_get (undeclared (length ds) name ∷ []) j ≡ Some d → d ≡ undeclared (length ds) name
    only zero f = sym (same_Some (undeclared (length ds) name) d f)
    only (suc j) f = absurd (none-some d f)

pub homes : (env : Env) (t : TypeId) (d : Declared) → declared_at env t ≡ Some d → HasHome env d ⊎ IsUndeclared d
homes env t d e =
    let own = declared_by 0 env in let first = with_java_lang object_name own in
    elim (with_one string_name first (list_any (is_java_lang string_name) first) t.0 d e) [
      | inl r ↦ elim (with_one object_name own (list_any (is_java_lang object_name) own) r.0 d r.1) [
        | inl s ↦ inl (home_by 0 env s.0 d s.1)
        | inr s ↦ inr (is_object (length own) s)
      ]
      | inr r ↦ inr (is_string (length first) r)
    ]

-- a type without a document is one of those
pub undocumented : (env : Env) (t : TypeId) (d : Declared) → declared_at env t ≡ Some d → d.doc ≡ None → IsUndeclared d
undocumented env t d e none = elim (homes env t d e) [
  | inl h ↦ absurd (none-some h.document.path (sym none ∙ h.path))
  | inr u ↦ u
]

-- ---- the document by a binary search

same_self : (p : DocPath) → same_path p p ≡ true
same_self p = let a = same_bytes p.container in let b = same_bytes p.path in ap (λ x. x && bytes_eq p.path p.path) a ∙ b
  where
    same_bytes : (x : List ℕ) → bytes_eq x x ≡ true
    same_bytes x = (bytes_eq-Decides x x).1 refl

-- two places with one path are one
one_place : (ds : List KeptDocument) (p : DocPath) (j k : ℕ) (x y : KeptDocument) → IsStrictlySortedBy path_cmp (map (λ d. d.path) ds)
    → slice_get ds j ≡ Some x → slice_get ds k ≡ Some y → same_path p x.path ≡ true → same_path p y.path ≡ true → j ≡ k
one_place ds p j k x y sorted a b first second =
    let inj = slice_get_within ds j x a in let ink = slice_get_within ds k y b in
    let atj : get_or ds j x ≡ x = get_or_from_slice_get ds j x x a in
    let atk : get_or ds k x ≡ y = get_or_from_slice_get ds k y x b in
    elim (cases_order j k) [
      | inl e ↦ e
      | inr o ↦ elim o [
        | inl l ↦ absurd (true≢false (sym second ∙ only_earlier p x.path y.path
            (ap (λ (z : KeptDocument). path_cmp z.path y.path) (sym atj) ∙ ap (λ (z : KeptDocument). path_cmp (get_or ds j x).path z.path) (sym atk) ∙ below_later (λ (d : KeptDocument). d.path) ds j k x sorted l ink) first))
        | inr g ↦ absurd (true≢false (sym first ∙ only_earlier p y.path x.path
            (ap (λ (z : KeptDocument). path_cmp z.path x.path) (sym atk) ∙ ap (λ (z : KeptDocument). path_cmp (get_or ds k x).path z.path) (sym atj) ∙ below_later (λ (d : KeptDocument). d.path) ds k j x sorted g inj) second))
      ]
    ]

kept_at : (ds : List KeptDocument) (k : ℕ) (e : EnvDocument) → slice_get (map document_of ds) k ≡ Some e → (x : KeptDocument) × (slice_get ds k ≡ Some x) × (document_of x ≡ e)
kept_at [] k e at = absurd (none-some e at)
kept_at (d ∷ ds) zero e at = (d, refl, same_Some (document_of d) e at)
kept_at (d ∷ ds) (suc k) e at = kept_at ds k e at

-- the entry of a type is that of a declared one
declared_of : (ds : List Declared) (n : ℕ) (e : Entry) → slice_get (map entry_of ds) n ≡ Some e → (d : Declared) × (slice_get ds n ≡ Some d) × (entry_of d ≡ e)
declared_of [] n e at = absurd (none-some e at)
declared_of (d ∷ ds) zero e at = (d, refl, same_Some (entry_of d) e at)
declared_of (d ∷ ds) (suc n) e at = declared_of ds n e at

none_at : (ds : List KeptDocument) (p : DocPath) (k : ℕ) (x : KeptDocument) → HasNone ds p → slice_get ds k ≡ Some x → same_path p x.path ≡ false
none_at [] p k x h at = absurd (none-some x at)
none_at (d ∷ ds) p zero x h at = ap (λ (y : KeptDocument). same_path p y.path) (sym (same_Some d x at)) ∙ h.0
none_at (d ∷ ds) p (suc k) x h at = none_at ds p k x h.1 at

same_declared : (d : Declared) (doc : Option DocPath) (o : Outline) (first number : ℕ) (t : OutlineType) → d.doc ≡ doc → d.outline ≡ o → d.first ≡ first → d.number ≡ number → d.type ≡ t
    → d ≡ record { doc = doc; outline = o; first = first; number = number; type = t }
same_declared d doc o first number t a b c e f = λ i. record { doc = a i; outline = b i; first = c i; number = e i; type = f i }

module _ (env : Env) (ds : List KeptDocument) (es : List Entry) (are : map document_of ds ≡ env) (order : AreInOrder (map document_of ds)) (entries : es ≡ map entry_of (declared env)) (id : TypeId) where
  at_entry : (e : Entry) → slice_get es id.0 ≡ Some e → (d : Declared) × (declared_at env id ≡ Some d) × (entry_of d ≡ e)
  at_entry e at = declared_of (declared env) id.0 e (ap (λ xs. slice_get xs id.0) (sym entries) ∙ at)

  pub no_entry : slice_get es id.0 ≡ None → has_no_document env id
  no_entry none =
      by (declared_at env id) (sym (slice_get-map entry_of (declared env) id.0) ∙ ap (λ xs. slice_get xs id.0) (sym entries) ∙ none)
    where
      by : (o : Option Declared) → option_map entry_of o ≡ None → option_and_then (λ d. d.doc) o ≡ None
      by None e = refl
      by (Some d) e = absurd (none-some (entry_of d) (sym e))

  pub no_path : (e : Entry) → slice_get es id.0 ≡ Some e → e.info.doc ≡ None → has_no_document env id
  no_path e at none = let d = at_entry e at in ap (option_and_then (λ x. x.doc)) d.1 ∙ ap (λ (x : Entry). x.info.doc) d.2 ∙ none

  module _ (e : Entry) (got_entry : slice_get es id.0 ≡ Some e) (itself : DocPath) (has : e.info.doc ≡ Some itself) where
    d : (d : Declared) × (declared_at env id ≡ Some d) × (entry_of d ≡ e)
    d = at_entry e got_entry

    doc : d.0.doc ≡ Some itself
    doc = ap (λ (x : Entry). x.info.doc) d.2 ∙ has

    number : d.0.number ≡ e.info.number
    number = ap (λ (x : Entry). x.info.number) d.2

    record Home : Type 0 where
      place : ℕ
      document : KeptDocument
      at : slice_get ds place ≡ Some document
      path : itself ≡ document.path
      outline : d.0.outline ≡ document.outline
      type : slice_get document.outline.types d.0.number ≡ Some d.0.type

    home : Home
    home = elim (homes env id d.0 d.1) [
      | inl h ↦
          let k = kept_at ds h.place h.document (ap (λ xs. slice_get xs h.place) are ∙ h.at) in
          record {
            place = h.place;
            document = k.0;
            at = k.1;
            path = same_Some itself k.0.path (sym doc ∙ h.path ∙ ap (λ (x : EnvDocument). Some x.path) (sym k.2));
            outline = h.outline ∙ ap (λ (x : EnvDocument). x.outline) (sym k.2);
            type = ap (λ (x : EnvDocument). slice_get x.outline.types d.0.number) k.2 ∙ h.type;
          }
      | inr u ↦ absurd (without u)
    ]
      where
        without : IsUndeclared d.0 → ⊥
        without (is_object n s) = none-some itself (sym (ap (λ (x : Declared). x.doc) s) ∙ doc)
        without (is_string n s) = none-some itself (sym (ap (λ (x : Declared). x.doc) s) ∙ doc)

    pub some_place : (seen : List KeptDocument) → seen ≡ ds → HasNone seen itself → ⊥
    some_place seen same none =
        let h = home in
        true≢false (sym (ap (same_path itself) (sym h.path) ∙ same_self itself) ∙ none_at ds itself h.place h.document (subst (λ xs. HasNone xs itself) same none) h.at)

    module _ (seen : List KeptDocument) (same : seen ≡ ds) (k : ℕ) (x : KeptDocument) (place : IsPlaceOf seen itself k) (is : x ≡ get_or seen k x) where
      here : slice_get ds k ≡ Some x
      here = let w : k < length ds = subst (λ xs. k < length xs) same place.within in
          slice_get-get_or ds k x w ∙ ap Some (ap (λ xs. get_or xs k x) (sym same) ∙ sym is)

      its_home : home.document ≡ x
      its_home =
          let h = home in
          let sorted = subst (IsStrictlySortedBy path_cmp) (paths_of ds) order in
          let p : same_path itself x.path ≡ true = ap (λ (y : KeptDocument). same_path itself y.path) is ∙ place.same x in
          let e = one_place ds itself h.place k h.document x sorted h.at here (ap (same_path itself) (sym h.path) ∙ same_self itself) p in
          same_Some h.document x (sym h.at ∙ ap (slice_get ds) e ∙ here)

      outline : d.0.outline ≡ x.outline
      outline = home.outline ∙ ap (λ (y : KeptDocument). y.outline) its_home

      type : slice_get x.outline.types e.info.number ≡ Some d.0.type
      type = ap (slice_get x.outline.types) (sym number) ∙ ap (λ (y : KeptDocument). slice_get y.outline.types d.0.number) (sym its_home) ∙ home.type

      pub some_type : slice_get x.outline.types e.info.number ≡ None → ⊥
      some_type none = none-some d.0.type (sym none ∙ type)

      pub found : (first : ℕ) (t : OutlineType) → slice_get x.outline.types e.info.number ≡ Some t → first ≡ id.0 - e.info.number
          → declared_at env id ≡ Some (record { doc = Some x.path; outline = x.outline; first = first; number = e.info.number; type = t })
      found first t got before =
          let n : d.0.first + d.0.number ≡ id.0 = ap (λ (t : TypeId). t.0) (own_id env id d.0 d.1) in
          let f : d.0.first ≡ first = let m = number in omega (arith, n, m, before) in
          d.1 ∙ ap Some (same_declared d.0 (Some x.path) x.outline first e.info.number t
          (doc ∙ ap Some home.path ∙ ap (λ (y : KeptDocument). Some y.path) its_home) outline f number (same_Some d.0.type t (sym type ∙ got)))
