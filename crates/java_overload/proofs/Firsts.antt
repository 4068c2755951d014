-- The first of methods in order of declaration.
use Rattle.std.proofs.Common.{◌≡◌, ◌+◌, ◌-◌, ◌<◌, ◌≤◌, ℕ, zero, suc, Bool, true, false, not, ◌||◌, ◌&&◌, ◌==◌, cond, List, [], ◌∷◌, ◌++◌, Option, Some, None, is_some, length, take, drop, get_or, option_map, inl, inr, refl, sym, ap, ◌∙◌, subst, arith, true≢false}
use Rattle.std.specs.Prelude.{slice_get, nat_lt, ◌⊎◌}
use Rattle.std.specs.List.{list_all, filter, find, flat_map}
use Rattle.std.specs.Option.{option_and_then}
use Rattle.std.proofs.lemmas.Bool.{cases_Bool, cases_lt, or_cases, or_left, or_right, or_from, and_parts, and_from, and_left, and_right, eqb-true, eq-eqb, lt-ltb, ltb-true, le-ltb, both_ways}
use Rattle.std.proofs.lemmas.Option.{none-some, same_Some}
use Rattle.std.proofs.lemmas.List.{take_more, length-append, length-drop}
use Rattle.std.proofs.lemmas.List.Folds.{list_any-append}
use Rattle.java_tree.specs.declared.occurrence.MethodId.{MethodId}
use Rattle.java_tree.specs.declared.occurrence.TypeId.{TypeId}
use Rattle.java_tree.specs.declared.types.Choice.TheVariants as choices
use Rattle.java_tree.specs.declared.outline.OutlineMethod.{OutlineMethod}
use Rattle.java_model.specs.Names.Environments.{Env, Declared, declared, declared_at, id_of, type_id}
use Rattle.java_model.specs.Names.Lists.{is_among}
use Rattle.java_model.specs.Names.Methods.{bodies_of, constructors_in, default_constructors, ids_from, is_abstract, method_info, method_info_of, methods_in, same_method, same_signature}
use Rattle.java_model.specs.Names.Overloads.{by_declaration, first_or, have_one_signature}
use Rattle.java_overload.specs.First.{comes_before, counts, earlier}
use Rattle.java_env.proofs.Inheriting.{one-method, method-self, place-among, Ids}

abbrev among : MethodId → List MethodId → Bool
among m ms = is_among same_method m ms

-- ---- the order

not-itself : (m : MethodId) → comes_before m m ≡ false
not-itself m = or_from (nat_lt m.of.0 m.of.0) ((m.of.0 == m.of.0) && nat_lt m.place m.place) (le-ltb m.of.0 m.of.0 (omega arith)) (and_right (m.of.0 == m.of.0) (nat_lt m.place m.place) (le-ltb m.place m.place (omega arith)))

-- one is before another by its type, or by its place in the same type
by-parts : (m n : MethodId) → comes_before m n ≡ true → (m.of.0 < n.of.0) ⊎ ((m.of.0 ≡ n.of.0) × (m.place < n.place))
by-parts m n e = elim (or_cases (nat_lt m.of.0 n.of.0) ((m.of.0 == n.of.0) && nat_lt m.place n.place) e) as (λ _. (m.of.0 < n.of.0) ⊎ ((m.of.0 ≡ n.of.0) × (m.place < n.place))) [
  | inl l ↦ inl (ltb-true m.of.0 n.of.0 l)
  | inr s ↦ let p = and_parts (m.of.0 == n.of.0) (nat_lt m.place n.place) s in inr (eqb-true m.of.0 n.of.0 p.0, ltb-true m.place n.place p.1)
]

from-type : (m n : MethodId) → m.of.0 < n.of.0 → comes_before m n ≡ true
from-type m n l = or_left (nat_lt m.of.0 n.of.0) ((m.of.0 == n.of.0) && nat_lt m.place n.place) (lt-ltb m.of.0 n.of.0 l)

from-place : (m n : MethodId) → m.of.0 ≡ n.of.0 → m.place < n.place → comes_before m n ≡ true
from-place m n e l = or_right (nat_lt m.of.0 n.of.0) ((m.of.0 == n.of.0) && nat_lt m.place n.place) (and_from (m.of.0 == n.of.0) (nat_lt m.place n.place) (eq-eqb m.of.0 n.of.0 e) (lt-ltb m.place n.place l))

through : (x m n : MethodId) → comes_before x m ≡ true → comes_before m n ≡ true → comes_before x n ≡ true
through x m n e f = by (by-parts x m e) (by-parts m n f)
  where
    by : (x.of.0 < m.of.0) ⊎ ((x.of.0 ≡ m.of.0) × (x.place < m.place)) → (m.of.0 < n.of.0) ⊎ ((m.of.0 ≡ n.of.0) × (m.place < n.place)) → comes_before x n ≡ true
    by (inl a) (inl b) = from-type x n (omega (arith, a, b))
    by (inl a) (inr b) = let s = b.0 in from-type x n (omega (arith, a, s))
    by (inr a) (inl b) = let s = a.0 in from-type x n (omega (arith, b, s))
    by (inr a) (inr b) = let s = a.0 in let t = b.0 in let k = a.1 in let l = b.1 in from-place x n (omega (arith, s, t)) (omega (arith, k, l))

-- ---- the first so far

pub record IsFirst (env : Env) (concrete : Bool) (ms : List MethodId) (first : Option MethodId) : Type 0 where
  pub none : first ≡ None → (x : MethodId) → among x ms ≡ true → counts env concrete x ≡ false
  pub of : (b : MethodId) → first ≡ Some b → among b ms ≡ true
  pub counted : (b : MethodId) → first ≡ Some b → counts env concrete b ≡ true
  pub least : (b : MethodId) → first ≡ Some b → (x : MethodId) → among x ms ≡ true → counts env concrete x ≡ true → comes_before x b ≡ false

pub first-none : (env : Env) (concrete : Bool) → IsFirst env concrete [] None
first-none env concrete = record {
  none = λ e x a. absurd (true≢false (sym a));
  of = λ b e. absurd (none-some b e);
  counted = λ b e. absurd (none-some b e);
  least = λ b e. absurd (none-some b e);
}

split : (x m : MethodId) (ms : List MethodId) → among x (ms ++ m ∷ []) ≡ true → (among x ms ≡ true) ⊎ (x ≡ m)
split x m ms e = elim (or_cases (among x ms) (among x (m ∷ [])) (sym (list_any-append (same_method x) ms (m ∷ [])) ∙ e)) as (λ _. (among x ms ≡ true) ⊎ (x ≡ m)) [
  | inl a ↦ inl a
  | inr b ↦ elim (or_cases (same_method x m) false b) as (λ _. (among x ms ≡ true) ⊎ (x ≡ m)) [ inl y ↦ inr (one-method x m y) | inr n ↦ absurd (true≢false (sym n)) ]
]

old : (x m : MethodId) (ms : List MethodId) → among x ms ≡ true → among x (ms ++ m ∷ []) ≡ true
old x m ms e = list_any-append (same_method x) ms (m ∷ []) ∙ or_left (among x ms) (among x (m ∷ [])) e

last : (m : MethodId) (ms : List MethodId) → among m (ms ++ m ∷ []) ≡ true
last m ms = list_any-append (same_method m) ms (m ∷ []) ∙ or_right (among m ms) (among m (m ∷ [])) (or_left (same_method m m) false (method-self m))

-- one that doesn't count changes nothing
pub first-passes : (env : Env) (concrete : Bool) (ms : List MethodId) (m : MethodId) (first : Option MethodId) → IsFirst env concrete ms first → counts env concrete m ≡ false → IsFirst env concrete (ms ++ m ∷ []) first
first-passes env concrete ms m first h isnt = record {
  none = λ e x a. elim (split x m ms a) as (λ _. counts env concrete x ≡ false) [ inl o ↦ h.none e x o | inr s ↦ ap (counts env concrete) s ∙ isnt ];
  of = λ b e. old b m ms (h.of b e);
  counted = h.counted;
  least = λ b e x a k. elim (split x m ms a) as (λ _. comes_before x b ≡ false) [ inl o ↦ h.least b e x o k | inr s ↦ absurd (both_ways (counts env concrete m) isnt (ap (counts env concrete) (sym s) ∙ k)) ];
}

pub first-takes : (env : Env) (concrete : Bool) (ms : List MethodId) (m : MethodId) (first next : Option MethodId) → IsFirst env concrete ms first → counts env concrete m ≡ true → next ≡ earlier m first → IsFirst env concrete (ms ++ m ∷ []) next
first-takes env concrete ms m None next h so e = record {
  none = λ n. absurd (none-some m (sym n ∙ e));
  of = λ b s. ap (λ k. among k (ms ++ m ∷ [])) (same_Some b m (sym s ∙ e)) ∙ last m ms;
  counted = λ b s. ap (counts env concrete) (same_Some b m (sym s ∙ e)) ∙ so;
  least = λ b s x a k. elim (split x m ms a) as (λ _. comes_before x b ≡ false) [
    | inl o ↦ absurd (both_ways (counts env concrete x) (h.none refl x o) k)
    | inr t ↦ ap (comes_before x) (same_Some b m (sym s ∙ e) ∙ sym t) ∙ not-itself x
  ];
}
first-takes env concrete ms m (Some n) next h so e = elim (cases_Bool (comes_before m n)) as (λ _. IsFirst env concrete (ms ++ m ∷ []) next) [
  | inl before ↦
      let is : next ≡ Some m = e ∙ ap (λ b. cond b (Some m) (Some n)) before in
      record {
        none = λ k. absurd (none-some m (sym k ∙ is));
        of = λ b s. ap (λ k. among k (ms ++ m ∷ [])) (same_Some b m (sym s ∙ is)) ∙ last m ms;
        counted = λ b s. ap (counts env concrete) (same_Some b m (sym s ∙ is)) ∙ so;
        least = λ b s x a k. elim (split x m ms a) as (λ _. comes_before x b ≡ false) [
          | inl o ↦ elim (cases_Bool (comes_before x b)) as (λ _. comes_before x b ≡ false) [
            | inl y ↦ absurd (both_ways (comes_before x n) (h.least n refl x o k) (through x m n (ap (comes_before x) (sym (same_Some b m (sym s ∙ is))) ∙ y) before))
            | inr z ↦ z
          ]
          | inr t ↦ ap (comes_before x) (same_Some b m (sym s ∙ is) ∙ sym t) ∙ not-itself x
        ];
      }
  | inr after ↦
      let is : next ≡ Some n = e ∙ ap (λ b. cond b (Some m) (Some n)) after in
      record {
        none = λ k. absurd (none-some n (sym k ∙ is));
        of = λ b s. ap (λ k. among k (ms ++ m ∷ [])) (same_Some b n (sym s ∙ is)) ∙ old n m ms (h.of n refl);
        counted = λ b s. ap (counts env concrete) (same_Some b n (sym s ∙ is)) ∙ h.counted n refl;
        least = λ b s x a k. elim (split x m ms a) as (λ _. comes_before x b ≡ false) [
          | inl o ↦ ap (comes_before x) (same_Some b n (sym s ∙ is)) ∙ h.least n refl x o k
          | inr t ↦ ap (comes_before x) (same_Some b n (sym s ∙ is)) ∙ ap (λ y. comes_before y n) t ∙ after
        ];
      }
]

-- ---- the first in a list in order

abbrev Rising : List MethodId → Type 0
Rising [] = Unit {0}
Rising (m ∷ ms) = ((x : MethodId) → among x ms ≡ true → comes_before m x ≡ true) × Rising ms

find-first : (p : MethodId → Bool) (xs : List MethodId) (b : MethodId) → Rising xs → among b xs ≡ true → p b ≡ true → ((x : MethodId) → among x xs ≡ true → p x ≡ true → comes_before x b ≡ false) → find p xs ≡ Some b
find-first p [] b r a e h = absurd (true≢false (sym a))
find-first p (y ∷ ys) b r a e h = elim (cases_Bool (p y)) as (λ _. find p (y ∷ ys) ≡ Some b) [
  | inl so ↦ ap (λ c. cond c (Some y) (find p ys)) so ∙ elim (or_cases (same_method b y) (among b ys) a) as (λ _. Some y ≡ Some b) [
    | inl s ↦ ap Some (sym (one-method b y s))
    | inr later ↦ absurd (both_ways (comes_before y b) (h y (or_left (same_method y y) (among y ys) (method-self y)) so) (r.0 b later))
  ]
  | inr isnt ↦ ap (λ c. cond c (Some y) (find p ys)) isnt ∙ elim (or_cases (same_method b y) (among b ys) a) as (λ _. find p ys ≡ Some b) [
    | inl s ↦ absurd (both_ways (p y) isnt (ap p (sym (one-method b y s)) ∙ e))
    | inr later ↦ find-first p ys b r.1 later e (λ x k. h x (or_right (same_method x y) (among x ys) k))
  ]
]

find-none : (p : MethodId → Bool) (xs : List MethodId) → ((x : MethodId) → among x xs ≡ true → p x ≡ false) → find p xs ≡ None
find-none p [] h = refl
find-none p (y ∷ ys) h = ap (λ c. cond c (Some y) (find p ys)) (h y (or_left (same_method y y) (among y ys) (method-self y))) ∙ find-none p ys (λ x k. h x (or_right (same_method x y) (among x ys) k))

find-filter : (p q : MethodId → Bool) (xs : List MethodId) → find p (filter q xs) ≡ find (λ x. q x && p x) xs
find-filter p q [] = refl
find-filter p q (x ∷ xs) = elim (cases_Bool (q x)) as (λ _. find p (filter q (x ∷ xs)) ≡ find (λ y. q y && p y) (x ∷ xs)) [
  | inl so ↦ ap (λ b. find p (cond b (x ∷ filter q xs) (filter q xs))) so ∙ ap (λ o. cond (p x) (Some x) o) (find-filter p q xs) ∙ sym (ap (λ b. cond (b && p x) (Some x) (find (λ y. q y && p y) xs)) so)
  | inr isnt ↦ ap (λ b. find p (cond b (x ∷ filter q xs) (filter q xs))) isnt ∙ find-filter p q xs ∙ sym (ap (λ b. cond (b && p x) (Some x) (find (λ y. q y && p y) xs)) isnt)
]

-- ---- all methods and constructors are in order

abbrev all_in : Env → Declared → List MethodId
all_in env d = methods_in d ++ constructors_in env d

-- from a type and a place on
abbrev From : ℕ → ℕ → MethodId → Type 0
From t place m = (m.of.0 ≡ t) × (place ≤ m.place)

ids-are-from : (t : TypeId) (p : ℕ) (ms : List OutlineMethod) (x : MethodId) → among x (ids_from t p ms) ≡ true → (x.of ≡ t) × (p ≤ x.place) × (x.place < p + length ms)
ids-are-from t p [] x a = absurd (true≢false (sym a))
ids-are-from t p (m ∷ ms) x a = elim (or_cases (same_method x (record { of = t; place = p })) (among x (ids_from t (p + 1) ms)) a) as (λ _. (x.of ≡ t) × (p ≤ x.place) × (x.place < p + length (m ∷ ms))) [
  | inl y ↦ let s = one-method x (record { of = t; place = p }) y in let l : x.place ≡ p = ap (λ (k : MethodId). k.place) s in (ap (λ (k : MethodId). k.of) s, omega (arith, l), omega (arith, l))
  | inr n ↦ let r = ids-are-from t (p + 1) ms x n in let l = r.1 in let u = r.2 in (r.0, omega (arith, l), omega (arith, u))
]

ids-rise : (t : TypeId) (p : ℕ) (ms : List OutlineMethod) → Rising (ids_from t p ms)
ids-rise t p [] = tt
ids-rise t p (m ∷ ms) =
    ((λ x a. let r = ids-are-from t (p + 1) ms x a in let l = r.1 in from-place (record { of = t; place = p }) x (ap (λ (k : TypeId). k.0) (sym r.0)) (omega (arith, l))), ids-rise t (p + 1) ms)

rise-append : (xs ys : List MethodId) → Rising xs → Rising ys → ((x y : MethodId) → among x xs ≡ true → among y ys ≡ true → comes_before x y ≡ true) → Rising (xs ++ ys)
rise-append [] ys r s h = s
rise-append (x ∷ xs) ys r s h = (
  (λ y a. elim (or_cases (among y xs) (among y ys) (sym (list_any-append (same_method y) xs ys) ∙ a)) as (λ _. comes_before x y ≡ true) [
    | inl k ↦ r.0 y k
    | inr k ↦ h x y (or_left (same_method x x) (among x xs) (method-self x)) k
  ]),
  rise-append xs ys r.1 s (λ z y a b. h z y (or_right (same_method z x) (among z xs) a) b),
)

all-in : (env : Env) (d : Declared) (x : MethodId) → among x (all_in env d) ≡ true → (x.of ≡ id_of d) × (x.place < length (bodies_of env d))
all-in env d x a =
    let joined : length (bodies_of env d) ≡ length (d.type.methods ++ d.type.constructors) + length (default_constructors env d d.type.constructors) = length-append (d.type.methods ++ d.type.constructors) (default_constructors env d d.type.constructors) in
    let first : length (d.type.methods ++ d.type.constructors) ≡ length d.type.methods + length d.type.constructors = length-append d.type.methods d.type.constructors in
    let many : length (bodies_of env d) ≡ length d.type.methods + (length (bodies_of env d) - length d.type.methods) = omega (arith, joined, first) in
    elim (or_cases (among x (methods_in d)) (among x (constructors_in env d)) (sym (list_any-append (same_method x) (methods_in d) (constructors_in env d)) ∙ a)) as (λ _. (x.of ≡ id_of d) × (x.place < length (bodies_of env d))) [
      | inl k ↦ let r = ids-are-from (id_of d) 0 d.type.methods x k in let l = r.2 in (r.0, omega (arith, l, many))
      | inr k ↦
          let r = ids-are-from (id_of d) (length d.type.methods) (drop (length d.type.methods) (bodies_of env d)) x k in let l = r.2 in
          let n = length-drop (length d.type.methods) (bodies_of env d) in (r.0, omega (arith, l, n, many))
    ]

all-in-rise : (env : Env) (d : Declared) → Rising (all_in env d)
all-in-rise env d = rise-append (methods_in d) (constructors_in env d) (ids-rise (id_of d) 0 d.type.methods) (ids-rise (id_of d) (length d.type.methods) (drop (length d.type.methods) (bodies_of env d)))
    (λ x y a b.
    let r = ids-are-from (id_of d) 0 d.type.methods x a in
    let s = ids-are-from (id_of d) (length d.type.methods) (drop (length d.type.methods) (bodies_of env d)) y b in
    let l = r.2 in let k = s.1 in
    from-place x y (ap (λ (t : TypeId). t.0) (r.0 ∙ sym s.0)) (omega (arith, l, k)))

-- the types of a list have these numbers, from one on
abbrev Numbered : ℕ → List Declared → Type 0
Numbered n ds = (k : ℕ) (d : Declared) → slice_get ds k ≡ Some d → (id_of d).0 ≡ n + k

next-numbered : (n : ℕ) (d : Declared) (ds : List Declared) → Numbered n (d ∷ ds) → Numbered (suc n) ds
next-numbered n d ds h k e at = let r = h (suc k) e at in omega (arith, r)

late : (env : Env) (n : ℕ) (ds : List Declared) (x : MethodId) → Numbered n ds → among x (flat_map (all_in env) ds) ≡ true → n ≤ x.of.0
late env n [] x h a = absurd (true≢false (sym a))
late env n (d ∷ ds) x h a = elim (or_cases (among x (all_in env d)) (among x (flat_map (all_in env) ds)) (sym (list_any-append (same_method x) (all_in env d) (flat_map (all_in env) ds)) ∙ a)) as (λ _. n ≤ x.of.0) [
  | inl k ↦ let r = ap (λ (t : TypeId). t.0) (all-in env d x k).0 in let z = h 0 d refl in omega (arith, r, z)
  | inr k ↦ let r = late env (suc n) ds x (next-numbered n d ds h) k in omega (arith, r)
]

all-rise : (env : Env) (n : ℕ) (ds : List Declared) → Numbered n ds → Rising (flat_map (all_in env) ds)
all-rise env n [] h = tt
all-rise env n (d ∷ ds) h = rise-append (all_in env d) (flat_map (all_in env) ds) (all-in-rise env d) (all-rise env (suc n) ds (next-numbered n d ds h))
    (λ x y a b.
    let r = ap (λ (t : TypeId). t.0) (all-in env d x a).0 in let z = h 0 d refl in
    let l = late env (suc n) ds y (next-numbered n d ds h) b in
    from-type x y (omega (arith, r, z, l)))

-- ---- which they are

in-all : (env : Env) (ds : List Declared) (k : ℕ) (d : Declared) (x : MethodId) → slice_get ds k ≡ Some d → among x (all_in env d) ≡ true → among x (flat_map (all_in env) ds) ≡ true
in-all env [] k d x e a = absurd (none-some d e)
in-all env (y ∷ ys) zero d x e a =
    list_any-append (same_method x) (all_in env y) (flat_map (all_in env) ys) ∙ or_left (among x (all_in env y)) (among x (flat_map (all_in env) ys)) (ap (λ z. among x (all_in env z)) (same_Some y d e) ∙ a)
in-all env (y ∷ ys) (suc k) d x e a =
    list_any-append (same_method x) (all_in env y) (flat_map (all_in env) ys) ∙ or_right (among x (all_in env y)) (among x (flat_map (all_in env) ys)) (in-all env ys k d x e a)

is-some : {X Y : Type 0} (f : X → Y) (xs : List X) (k : ℕ) → is_some (option_map f (slice_get xs k)) ≡ true → k < length xs
is-some f [] k e = absurd (true≢false (sym e))
is-some f (x ∷ xs) zero e = omega arith
is-some f (x ∷ xs) (suc k) e = let r = is-some f xs k e in omega (arith, r)

pub there : (env : Env) (x : MethodId) → Ids env → is_some (method_info env x) ≡ true → among x (flat_map (all_in env) (declared env)) ≡ true
there env x ids e = by (declared_at env x.of) refl e
  where
    by : (o : Option Declared) → declared_at env x.of ≡ o → is_some (option_and_then (λ d. option_map (method_info_of env d) (slice_get (bodies_of env d) x.place)) o) ≡ true → among x (flat_map (all_in env) (declared env)) ≡ true
    by None at k = absurd (true≢false (sym k))
    by (Some d) at k =
        let l = is-some (method_info_of env d) (bodies_of env d) x.place k in
        in-all env (declared env) x.of.0 d x at
        (list_any-append (same_method x) (methods_in d) (constructors_in env d)
        ∙ elim (cases_lt x.place (length d.type.methods)) as (λ _. (among x (methods_in d) || among x (constructors_in env d)) ≡ true) [
          | inl lt ↦ or_left (among x (methods_in d)) (among x (constructors_in env d)) (place-among x (id_of d) 0 d.type.methods (sym (ids x.of d at)) (omega arith) (omega (arith, lt)))
          | inr ge ↦ or_right (among x (methods_in d)) (among x (constructors_in env d))
              (place-among x (id_of d) (length d.type.methods) (drop (length d.type.methods) (bodies_of env d)) (sym (ids x.of d at)) ge
              (let n = length-drop (length d.type.methods) (bodies_of env d) in omega (arith, l, n, ge)))
        ])

whose : (env : Env) (n : ℕ) (ds : List Declared) (x : MethodId) → Numbered n ds → among x (flat_map (all_in env) ds) ≡ true
    → (k : ℕ) × (d : Declared) × (slice_get ds k ≡ Some d) × (x.of.0 ≡ n + k) × (x.place < length (bodies_of env d))
whose env n [] x h a = absurd (true≢false (sym a))
whose env n (y ∷ ys) x h a = elim (or_cases (among x (all_in env y)) (among x (flat_map (all_in env) ys)) (sym (list_any-append (same_method x) (all_in env y) (flat_map (all_in env) ys)) ∙ a))
    as (λ _. (k : ℕ) × (d : Declared) × (slice_get (y ∷ ys) k ≡ Some d) × (x.of.0 ≡ n + k) × (x.place < length (bodies_of env d))) [
      | inl e ↦ let r = all-in env y x e in let z = h 0 y refl in let w = ap (λ (t : TypeId). t.0) r.0 in (0, y, refl, omega (arith, w, z), r.1)
      | inr e ↦ let r = whose env (suc n) ys x (next-numbered n y ys h) e in let w = r.3 in (suc r.0, r.1, r.2, omega (arith, w), r.4)
    ]

some-at : {X Y : Type 0} (f : X → Y) (xs : List X) (k : ℕ) → k < length xs → is_some (option_map f (slice_get xs k)) ≡ true
some-at f [] k l = absurd (omega (arith, l))
some-at f (x ∷ xs) zero l = refl
some-at f (x ∷ xs) (suc k) l = some-at f xs k (omega (arith, l))

known : (env : Env) (x : MethodId) → Ids env → among x (flat_map (all_in env) (declared env)) ≡ true → is_some (method_info env x) ≡ true
known env x ids a =
    let r = whose env 0 (declared env) x (λ k d e. let i = ap (λ (t : TypeId). t.0) (ids (type_id k) d e) in omega (arith, i)) a in
    let same : x.of.0 ≡ r.0 = let w = r.3 in omega (arith, w) in
    ap (λ o. is_some (option_and_then (λ d. option_map (method_info_of env d) (slice_get (bodies_of env d) x.place)) o)) (ap (slice_get (declared env)) same ∙ r.2)
    ∙ some-at (method_info_of env r.1) (bodies_of env r.1) x.place r.4

-- ---- the first of all

abbrev Picks : Env → Bool → List MethodId → MethodId → Bool
Picks env concrete ms x = among x ms && not (concrete && is_abstract env x)

pub first-is : (env : Env) (concrete : Bool) (ms : List MethodId) (first : Option MethodId) → Ids env → IsFirst env concrete ms first → first ≡ find (λ m. not (concrete && is_abstract env m)) (by_declaration env ms)
first-is env concrete ms first ids h = by first refl ∙ sym (find-filter (λ m. not (concrete && is_abstract env m)) (λ x. among x ms) (flat_map (all_in env) (declared env)))
  where
    numbered : Numbered 0 (declared env)
    numbered k d e = let r = ap (λ (t : TypeId). t.0) (ids (type_id k) d e) in omega (arith, r)

    off : first ≡ None → (x : MethodId) → among x (flat_map (all_in env) (declared env)) ≡ true → Picks env concrete ms x ≡ false
    off e x a = elim (cases_Bool (among x ms)) as (λ _. Picks env concrete ms x ≡ false) [
      | inl is_in ↦ and_right (among x ms) (not (concrete && is_abstract env x))
          (ap (λ b. b && not (concrete && is_abstract env x)) (sym (known env x ids a)) ∙ h.none e x is_in)
      | inr out ↦ and_left (among x ms) (not (concrete && is_abstract env x)) out
    ]

    by : (o : Option MethodId) → first ≡ o → first ≡ find (Picks env concrete ms) (flat_map (all_in env) (declared env))
    by None e = e ∙ sym (find-none (Picks env concrete ms) (flat_map (all_in env) (declared env)) (off e))
    by (Some b) e =
        let c = and_parts (is_some (method_info env b)) (not (concrete && is_abstract env b)) (h.counted b e) in
        e ∙ sym (find-first (Picks env concrete ms) (flat_map (all_in env) (declared env)) b (all-rise env 0 (declared env) numbered) (there env b ids c.0)
        (and_from (among b ms) (not (concrete && is_abstract env b)) (h.of b e) c.1)
        (λ x a p. let q = and_parts (among x ms) (not (concrete && is_abstract env x)) p in
        h.least b e x q.0 (and_from (is_some (method_info env x)) (not (concrete && is_abstract env x)) (known env x ids a) q.1)))

-- ---- the first of any

pub any-first : (p : MethodId → Bool) (ms : List MethodId) (o : Option MethodId) → o ≡ find (λ m. not (false && p m)) ms → o ≡ None → choices.NoMethod ≡ first_or None ms
any-first p [] o e n = refl
any-first p (m ∷ ms) o e n = absurd (none-some m (sym n ∙ e))

pub some-first : (p : MethodId → Bool) (ms : List MethodId) (o : Option MethodId) (m : MethodId) → o ≡ find (λ x. not (false && p x)) ms → o ≡ Some m → choices.One m ≡ first_or None ms
some-first p [] o m e s = absurd (none-some m (sym e ∙ s))
some-first p (x ∷ ms) o m e s = ap choices.One (same_Some m x (sym s ∙ e))

-- ---- one more

pub first-more : (env : Env) (concrete : Bool) (ms : List MethodId) (i : ℕ) (m : MethodId) (first next : Option MethodId) → i < length ms → m ≡ get_or ms i m
    → IsFirst env concrete (take i ms) first → next ≡ cond (counts env concrete m) (earlier m first) first → IsFirst env concrete (take (i + 1) ms) next
first-more env concrete ms i m first next l at h e =
    subst (λ xs. IsFirst env concrete xs next) (sym (take_more ms i m l ∙ ap (λ y. take i ms ++ y ∷ []) (sym at)))
    (elim (cases_Bool (counts env concrete m)) as (λ _. IsFirst env concrete (take i ms ++ m ∷ []) next) [
      | inl k ↦ first-takes env concrete (take i ms) m first next h k (e ∙ ap (λ b. cond b (earlier m first) first) k)
      | inr k ↦ subst (λ o. IsFirst env concrete (take i ms ++ m ∷ []) o) (sym (e ∙ ap (λ b. cond b (earlier m first) first) k)) (first-passes env concrete (take i ms) m first h k)
    ])

-- ---- one signature

pub one-signature : (env : Env) (ms : List MethodId) (x : MethodId) (others : List MethodId) (b : Bool) → Some x ≡ slice_get ms 0 → others ≡ drop 1 ms
    → b ≡ list_all (same_signature env x) others → b ≡ have_one_signature env ms
one-signature env [] x others b at is e = absurd (none-some x (sym at))
one-signature env (m ∷ ms) x others b at is e = e ∙ ap (list_all (same_signature env x)) is ∙ ap (λ k. list_all (same_signature env k) ms) (same_Some x m at)

pub no-signature : (env : Env) (ms : List MethodId) → None ≡ slice_get ms 0 → false ≡ have_one_signature env ms
no-signature env [] at = refl
no-signature env (m ∷ ms) at = absurd (none-some m at)
