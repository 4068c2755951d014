-- All fields and all types rise, and what a type has is among them.
use Rattle.std.proofs.Common.{◌≡◌, ◌+◌, ◌<◌, ◌≤◌, ℕ, zero, suc, ◌==◌, ◌&&◌, ◌||◌, Bool, true, false, cond, List, [], ◌∷◌, ◌++◌, Option, Some, None, filter, flat_map, map, position, slice_get, unwrap_or, option_map, option_to_list, inl, inr, refl, sym, ap, ◌∙◌, subst, arith, true≢false}
use Rattle.std.specs.List.{AllByRecursion, find, list_any}
use Rattle.std.specs.Option.{option_map_or}
use Rattle.std.specs.Ordering.{nat_cmp, ordering_then}
use Rattle.std.specs.declared.cmp.Ordering.TheVariants.{Less, Equal, Greater}
use Rattle.std.proofs.lemmas.Bool.{lt-ltb, or_cases}
use Rattle.std.proofs.lemmas.Cmp.{nat_cmp_total, tied_itself}
use Rattle.std.proofs.lemmas.List.Folds.{list_any-append}
use Rattle.std.proofs.lemmas.Option.{none-some, same_Some}
use Rattle.java_tree.specs.declared.occurrence.FieldId.{FieldId}
use Rattle.java_tree.specs.declared.occurrence.TypeId.{TypeId}
use Rattle.java_tree.specs.declared.outline.OutlineField.{OutlineField}
use Rattle.java_model.specs.Names.Environments.{Env, Declared, declared, declared_at, first_declaration, id_of, ids, is_named, is_unqualified, names_of, package_of, same_id, type_id, type_named}
use Rattle.java_model.specs.Names.Fields.{all_fields, declared_fields, fields, fields_by, fields_from, fields_in, inherits_field, is_field_named, same_field}
use Rattle.java_model.specs.Names.Lists.{Identifier, fresh, is_among, or_else}
use Rattle.java_model.specs.Names.MemberTypes.{member_types, member_types_by}
use Rattle.java_model.specs.Names.Supertypes.{count, declared_types, inherits_type, is_member_type, known_supers}
use Rattle.java_model.proofs.DeclaredLaws.{found-at}
use Rattle.java_types.proofs.Numbers.{own_id}
use Rattle.java_members.specs.Inheriting.{field_of, fields_had, of_field, of_type, type_of, types_had}
use Rattle.java_members.specs.Members.{Rising, Same, order, same_member}
use Rattle.java_members.specs.declared.member.Member.{Member}
use Rattle.java_members.proofs.Members.{alike, sound}
use Rattle.java_members.proofs.Ordered.{Stands, map-append, ordered}

-- ---- before

less-of : (m n : Member) → m.of < n.of → order m n ≡ Less
less-of m n l = ap (λ b. ordering_then (cond b Less (cond (m.of == n.of) Equal Greater)) (nat_cmp m.place n.place)) (lt-ltb m.of n.of l)

less-place : (m n : Member) → m.of ≡ n.of → m.place < n.place → order m n ≡ Less
less-place m n e l =
    ap (λ k. ordering_then (nat_cmp m.of k) (nat_cmp m.place n.place)) (sym e) ∙ ap (λ o. ordering_then o (nat_cmp m.place n.place)) (tied_itself nat_cmp_total m.of)
    ∙ ap (λ b. cond b Less (cond (m.place == n.place) Equal Greater)) (lt-ltb m.place n.place l)

rising-append : (ms ns : List Member) → Rising ms → Rising ns → ((m n : Member) → is_among same_member m ms ≡ true → is_among same_member n ns ≡ true → order m n ≡ Less) → Rising (ms ++ ns)
rising-append [] ns r t b = t
rising-append (m ∷ ms) ns r t b = (
  λ n h. elim (or_cases (is_among same_member n ms) (is_among same_member n ns) (sym (list_any-append (same_member n) ms ns) ∙ h)) [
    | inl e ↦ r.0 n e
    | inr e ↦ b m n (ap (λ c. c || list_any (same_member m) ms) (alike m)) e
  ],
  rising-append ms ns r.1 t (λ x n h k. b x n (second (same_member x m) (list_any (same_member x) ms) h) k),
)
  where
    second : (a c : Bool) → c ≡ true → (a || c) ≡ true
    second true c h = refl
    second false c h = h

-- ---- types

-- the ids rise by one from this on
abbrev FromOn : ℕ → List Declared → Type 0
FromOn n ds = (i : ℕ) (d : Declared) → slice_get ds i ≡ Some d → (id_of d).0 ≡ n + i

first-is : (n : ℕ) (d : Declared) (ds : List Declared) → FromOn n (d ∷ ds) → (id_of d).0 ≡ n
first-is n d ds f = let e = f 0 d refl in omega (arith, e)

rest-are : (n : ℕ) (d : Declared) (ds : List Declared) → FromOn n (d ∷ ds) → FromOn (n + 1) ds
rest-are n d ds f i x e = let r = f (suc i) x e in omega (arith, r)

types-from : (n : ℕ) (ds : List Declared) → FromOn n ds → (m : Member) → is_among same_member m (map of_type (map id_of ds)) ≡ true → n ≤ m.of
types-from n [] f m h = absurd (true≢false (sym h))
types-from n (d ∷ ds) f m h = elim (or_cases (same_member m (of_type (id_of d))) (list_any (same_member m) (map of_type (map id_of ds))) h) [
  | inl e ↦ let s : m.of ≡ (id_of d).0 = ap (λ (x : Member). x.of) (sound m (of_type (id_of d)) e) in let a = first-is n d ds f in omega (arith, s, a)
  | inr e ↦ let r = types-from (n + 1) ds (rest-are n d ds f) m e in omega (arith, r)
]

rising-types : (n : ℕ) (ds : List Declared) → FromOn n ds → Rising (map of_type (map id_of ds))
rising-types n [] f = tt
rising-types n (d ∷ ds) f = (
  λ m h. less-of (of_type (id_of d)) m (let r = types-from (n + 1) ds (rest-are n d ds f) m h in let a = first-is n d ds f in omega (arith, r, a)),
  rising-types (n + 1) ds (rest-are n d ds f),
)

numbered : (env : Env) → FromOn 0 (declared env)
numbered env i d e = let s : (id_of d).0 ≡ i = ap (λ (t : TypeId). t.0) (own_id env (type_id i) d e) in omega (arith, s)

-- ---- fields

place-from : (t : TypeId) (p : ℕ) (fs : List OutlineField) (m : Member) → is_among same_member m (map of_field (fields_from t p fs)) ≡ true → (m.of ≡ t.0) × (p ≤ m.place)
place-from t p [] m h = absurd (true≢false (sym h))
place-from t p (f ∷ fs) m h = elim (or_cases (same_member m (record { of = t.0; place = p })) (list_any (same_member m) (map of_field (fields_from t (p + 1) fs))) h) [
  | inl e ↦ let s = sound m (record { of = t.0; place = p }) e in (ap (λ (x : Member). x.of) s, let k : m.place ≡ p = ap (λ (x : Member). x.place) s in omega (arith, k))
  | inr e ↦ let r = place-from t (p + 1) fs m e in (r.0, let k = r.1 in omega (arith, k))
]

rising-places : (t : TypeId) (p : ℕ) (fs : List OutlineField) → Rising (map of_field (fields_from t p fs))
rising-places t p [] = tt
rising-places t p (f ∷ fs) = (
  λ m h. let r = place-from t (p + 1) fs m h in less-place (record { of = t.0; place = p }) m (sym r.0) (let k = r.1 in omega (arith, k)),
  rising-places t (p + 1) fs,
)

fields-from-on : (n : ℕ) (ds : List Declared) → FromOn n ds → (m : Member) → is_among same_member m (map of_field (flat_map fields_in ds)) ≡ true → n ≤ m.of
fields-from-on n [] f m h = absurd (true≢false (sym h))
fields-from-on n (d ∷ ds) f m h =
    elim (or_cases (is_among same_member m (map of_field (fields_in d))) (is_among same_member m (map of_field (flat_map fields_in ds)))
    (sym (ap (is_among same_member m) (map-append of_field (fields_in d) (flat_map fields_in ds)) ∙ list_any-append (same_member m) (map of_field (fields_in d)) (map of_field (flat_map fields_in ds))) ∙ h)) [
      | inl e ↦ let s = (place-from (id_of d) 0 d.type.fields m e).0 in let a = first-is n d ds f in omega (arith, s, a)
      | inr e ↦ let r = fields-from-on (n + 1) ds (rest-are n d ds f) m e in omega (arith, r)
    ]

rising-fields : (n : ℕ) (ds : List Declared) → FromOn n ds → Rising (map of_field (flat_map fields_in ds))
rising-fields n [] f = tt
rising-fields n (d ∷ ds) f =
    subst Rising (sym (map-append of_field (fields_in d) (flat_map fields_in ds)))
    (rising-append (map of_field (fields_in d)) (map of_field (flat_map fields_in ds)) (rising-places (id_of d) 0 d.type.fields) (rising-fields (n + 1) ds (rest-are n d ds f))
    (λ x y h k.
    let s = (place-from (id_of d) 0 d.type.fields x h).0 in
    let a = first-is n d ds f in
    let r = fields-from-on (n + 1) ds (rest-are n d ds f) y k in
    less-of x y (omega (arith, s, a, r))))

-- ---- all of a list

all-append : {X : Type 0} (P : X → Type 0) (xs ys : List X) → AllByRecursion P xs → AllByRecursion P ys → AllByRecursion P (xs ++ ys)
all-append P [] ys a b = b
all-append P (x ∷ xs) ys a b = (a.0, all-append P xs ys a.1 b)

all-filter : {X : Type 0} (P : X → Type 0) (p : X → Bool) (xs : List X) → AllByRecursion P xs → AllByRecursion P (filter p xs)
all-filter P p [] a = tt
all-filter P p (x ∷ xs) a = by (p x) (all-filter P p xs a.1)
  where
    by : (b : Bool) → AllByRecursion P (filter p xs) → AllByRecursion P (cond b (x ∷ filter p xs) (filter p xs))
    by true r = (a.0, r)
    by false r = r

all-fresh : (P : TypeId → Type 0) (ts seen : List TypeId) → AllByRecursion P ts → AllByRecursion P (fresh same_id seen ts)
all-fresh P [] seen a = tt
all-fresh P (t ∷ ts) seen a = by (is_among same_id t seen) (all-fresh P ts seen a.1) (all-fresh P ts (t ∷ seen) a.1)
  where
    by : (b : Bool) → AllByRecursion P (fresh same_id seen ts) → AllByRecursion P (fresh same_id (t ∷ seen) ts)
        → AllByRecursion P (cond b (fresh same_id seen ts) (t ∷ fresh same_id (t ∷ seen) ts))
    by true r s = r
    by false r s = (a.0, s)

all-flat : {X : Type 0} (P : X → Type 0) (f : TypeId → List X) (ts : List TypeId) → ((t : TypeId) → AllByRecursion P (f t)) → AllByRecursion P (flat_map f ts)
all-flat P f [] h = tt
all-flat P f (t ∷ ts) h = all-append P (f t) (flat_map f ts) (h t) (all-flat P f ts h)

all-else : {X : Type 0} (P : X → Type 0) (xs ys : List X) → AllByRecursion P xs → AllByRecursion P ys → AllByRecursion P (or_else xs (λ _. ys))
all-else P [] ys a b = b
all-else P (x ∷ xs) ys a b = a

all-weaker : {X : Type 0} (P Q : X → Type 0) (xs : List X) → ((x : X) → P x → Q x) → AllByRecursion P xs → AllByRecursion Q xs
all-weaker P Q [] h a = tt
all-weaker P Q (x ∷ xs) h a = (h x a.0, all-weaker P Q xs h a.1)

-- Each element stands, as a member, among these.
abbrev Stand : {X : Type 0} → (X → Member) → List Member → X → Type 0
Stand to ms x = is_among same_member (to x) ms ≡ true

one-stands : {X : Type 0} (to : X → Member) (ms : List Member) (xs : List X) → AllByRecursion (Stand to ms) xs → (m : Member) → is_among same_member m (map to xs) ≡ true → is_among same_member m ms ≡ true
one-stands to ms [] a m h = absurd (true≢false (sym h))
one-stands to ms (x ∷ xs) a m h = elim (or_cases (same_member m (to x)) (list_any (same_member m) (map to xs)) h) [
  | inl e ↦ subst (λ k. is_among same_member k ms ≡ true) (sym (sound m (to x) e)) a.0
  | inr e ↦ one-stands to ms xs a.1 m e
]

after-one : {X : Type 0} (to : X → Member) (n : Member) (ms : List Member) (x : X) → Stand to ms x → Stand to (n ∷ ms) x
after-one to n ms x h = by (same_member (to x) n)
  where
    by : (b : Bool) → (b || is_among same_member (to x) ms) ≡ true
    by true = refl
    by false = h

all-itself : {X : Type 0} (to : X → Member) (xs : List X) → AllByRecursion (Stand to (map to xs)) xs
all-itself to [] = tt
all-itself to (x ∷ xs) =
    (ap (λ b. b || list_any (same_member (to x)) (map to xs)) (alike (to x)), all-weaker (Stand to (map to xs)) (Stand to (to x ∷ map to xs)) xs (after-one to (to x) (map to xs)) (all-itself to xs))

left-of : {X : Type 0} (to : X → Member) (ms ns : List Member) (x : X) → Stand to ms x → Stand to (ms ++ ns) x
left-of to ms ns x h = list_any-append (same_member (to x)) ms ns ∙ ap (λ b. b || list_any (same_member (to x)) ns) h

right-of : {X : Type 0} (to : X → Member) (ms ns : List Member) (x : X) → Stand to ns x → Stand to (ms ++ ns) x
right-of to ms ns x h = list_any-append (same_member (to x)) ms ns ∙ by (list_any (same_member (to x)) ms)
  where
    by : (b : Bool) → (b || list_any (same_member (to x)) ns) ≡ true
    by true = refl
    by false = h

-- ---- fields are among all

own-fields : (ds : List Declared) (i : ℕ) (d : Declared) → slice_get ds i ≡ Some d → AllByRecursion (Stand of_field (map of_field (flat_map fields_in ds))) (fields_in d)
own-fields [] i d e = absurd (none-some d e)
own-fields (x ∷ ds) zero d e =
    subst (λ y. AllByRecursion (Stand of_field (map of_field (flat_map fields_in (x ∷ ds)))) (fields_in y)) (same_Some x d e)
    (subst (λ ms. AllByRecursion (Stand of_field ms) (fields_in x)) (sym (map-append of_field (fields_in x) (flat_map fields_in ds)))
    (all-weaker (Stand of_field (map of_field (fields_in x))) (Stand of_field (map of_field (fields_in x) ++ map of_field (flat_map fields_in ds))) (fields_in x)
    (left-of of_field (map of_field (fields_in x)) (map of_field (flat_map fields_in ds))) (all-itself of_field (fields_in x))))
own-fields (x ∷ ds) (suc i) d e =
    subst (λ ms. AllByRecursion (Stand of_field ms) (fields_in d)) (sym (map-append of_field (fields_in x) (flat_map fields_in ds)))
    (all-weaker (Stand of_field (map of_field (flat_map fields_in ds))) (Stand of_field (map of_field (fields_in x) ++ map of_field (flat_map fields_in ds))) (fields_in d)
    (right-of of_field (map of_field (fields_in x)) (map of_field (flat_map fields_in ds))) (own-fields ds i d e))

declared-fields : (env : Env) (name : Identifier) (t : TypeId) → AllByRecursion (Stand of_field (map of_field (all_fields env))) (declared_fields env t name)
declared-fields env name t = by (declared_at env t) refl
  where
    by : (o : Option Declared) → declared_at env t ≡ o → AllByRecursion (Stand of_field (map of_field (all_fields env))) (filter (is_field_named env name) (option_map_or fields_in o []))
    by None e = tt
    by (Some d) e = all-filter (Stand of_field (map of_field (all_fields env))) (is_field_named env name) (fields_in d) (own-fields (declared env) t.0 d e)

found-fields : (env : Env) (name : Identifier) (n : ℕ) (t : TypeId) → AllByRecursion (Stand of_field (map of_field (all_fields env))) (fields_by n env t name)
found-fields env name zero t = declared-fields env name t
found-fields env name (suc n) t =
    let P = Stand of_field (map of_field (all_fields env)) in
    all-else P (declared_fields env t name) (filter (inherits_field env t) (flat_map (λ s. fields_by n env s name) (known_supers env t))) (declared-fields env name t)
    (all-filter P (inherits_field env t) (flat_map (λ s. fields_by n env s name) (known_supers env t)) (all-flat P (λ s. fields_by n env s name) (known_supers env t) (λ s. found-fields env name n s)))

field-stands : Stands of_field field_of same_field
field-stands = record { back = λ f. refl; same_is = λ f g. refl }

pub all-fields : (env : Env) (t : TypeId) (name : Identifier) (ms : List Member) (fs : List FieldId) → Rising ms → Same ms (fields_had env name t) → fs ≡ map field_of ms → fs ≡ fields env t name
unfolding fields_had
all-fields env t name ms fs r s e =
    e ∙ ordered of_field field_of same_field field-stands (all_fields env) (fields_by (count env) env t name) ms r s (rising-fields 0 (declared env) (numbered env))
    (one-stands of_field (map of_field (all_fields env)) (fields_by (count env) env t name) (found-fields env name (count env) t))

-- ---- member types are among all

own-type : (ds : List Declared) (i : ℕ) (d : Declared) → slice_get ds i ≡ Some d → Stand of_type (map of_type (map id_of ds)) (id_of d)
own-type [] i d e = absurd (none-some d e)
own-type (x ∷ ds) zero d e =
    subst (λ y. Stand of_type (map of_type (map id_of (x ∷ ds))) (id_of y)) (same_Some x d e) (ap (λ b. b || list_any (same_member (of_type (id_of x))) (map of_type (map id_of ds))) (alike (of_type (id_of x))))
own-type (x ∷ ds) (suc i) d e = after-one of_type (of_type (id_of x)) (map of_type (map id_of ds)) (id_of d) (own-type ds i d e)

found-place : (p : Declared → Bool) (ds : List Declared) (d : Declared) → find p ds ≡ Some d → (i : ℕ) × (slice_get ds i ≡ Some d)
found-place p [] d e = absurd (none-some d e)
found-place p (x ∷ ds) d e = by (p x) e (found-place p ds d)
  where
    by : (b : Bool) → cond b (Some x) (find p ds) ≡ Some d → (find p ds ≡ Some d → (i : ℕ) × (slice_get ds i ≡ Some d)) → (i : ℕ) × (slice_get (x ∷ ds) i ≡ Some d)
    by true h r = (0, h)
    by false h r = let q = r h in (suc q.0, q.1)

named-type : (env : Env) (d : Declared) (o : Option ℕ) → position (is_named (package_of d) (names_of d)) (declared env) ≡ o → Stand of_type (map of_type (ids env)) (id_of d)
    → Stand of_type (map of_type (ids env)) (unwrap_or (option_map type_id o) (id_of d))
named-type env d None e own = own
named-type env d (Some n) e own =
    let f = found-at (is_named (package_of d) (names_of d)) (declared env) n e in
    subst (Stand of_type (map of_type (ids env))) (own_id env (type_id n) f.0 f.1) (own-type (declared env) n f.0 f.1)

first-type : (env : Env) (i : ℕ) (d : Declared) → slice_get (declared env) i ≡ Some d → (b : Bool)
    → Stand of_type (map of_type (ids env)) (cond b (id_of d) (unwrap_or (type_named env (package_of d) (names_of d)) (id_of d)))
first-type env i d e true = own-type (declared env) i d e
first-type env i d e false = named-type env d (position (is_named (package_of d) (names_of d)) (declared env)) refl (own-type (declared env) i d e)

declared-types : (env : Env) (name : Identifier) (t : TypeId) → AllByRecursion (Stand of_type (map of_type (ids env))) (declared_types env t name)
declared-types env name t = by (find (is_member_type t name) (declared env)) refl
  where
    by : (o : Option Declared) → find (is_member_type t name) (declared env) ≡ o → AllByRecursion (Stand of_type (map of_type (ids env))) (option_to_list (option_map (first_declaration env) o))
    by None e = tt
    by (Some d) e = let f = found-place (is_member_type t name) (declared env) d e in (first-type env f.0 d f.1 (is_unqualified d), tt)

found-types : (env : Env) (name : Identifier) (n : ℕ) (t : TypeId) → AllByRecursion (Stand of_type (map of_type (ids env))) (member_types_by n env t name)
found-types env name zero t = declared-types env name t
found-types env name (suc n) t =
    let P = Stand of_type (map of_type (ids env)) in
    let all = flat_map (λ s. member_types_by n env s name) (known_supers env t) in
    all-else P (declared_types env t name) (fresh same_id [] (filter (inherits_type env t) all)) (declared-types env name t)
    (all-fresh P (filter (inherits_type env t) all) [] (all-filter P (inherits_type env t) all (all-flat P (λ s. member_types_by n env s name) (known_supers env t) (λ s. found-types env name n s))))

type-stands : Stands of_type type_of same_id
type-stands = record { back = λ t. refl; same_is = λ s t. alone (s.0 == t.0) }
  where
    alone : (b : Bool) → b ≡ (b && (0 == 0))
    alone true = refl
    alone false = refl

pub all-types : (env : Env) (t : TypeId) (name : Identifier) (ms : List Member) (ts : List TypeId) → Rising ms → Same ms (types_had env name t) → ts ≡ map type_of ms → ts ≡ member_types env t name
unfolding types_had
all-types env t name ms ts r s e =
    e ∙ ordered of_type type_of same_id type-stands (ids env) (member_types_by (count env) env t name) ms r s (rising-types 0 (declared env) (numbered env))
    (one-stands of_type (map of_type (ids env)) (member_types_by (count env) env t name) (found-types env name (count env) t))
