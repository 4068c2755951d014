-- A type has a method exactly where a way along which it is inherited comes to the type that declares it.
use Rattle.std.proofs.Common.{◌≡◌, ◌+◌, ◌≤◌, ◌<◌, ℕ, zero, suc, Bool, true, false, ◌||◌, ◌&&◌, ◌==◌, cond, List, [], ◌∷◌, ◌++◌, Option, Some, None, length, inl, inr, refl, sym, ap, ◌∙◌, arith, true≢false}
use Rattle.std.specs.List.{list_any, filter, flat_map}
use Rattle.std.specs.Option.{option_map_or}
use Rattle.std.specs.Str.{bytes_eq}
use Rattle.std.proofs.lemmas.Bool.{cases_lt, or_cases, or_left, or_right, and_parts, and_from, eqb-true, eq-eqb, false_from_ne_true}
use Rattle.std.proofs.lemmas.List.Folds.{list_any-append}
use Rattle.std.proofs.lemmas.Slice.Eq.{bytes_eq-Decides}
use Rattle.std.proofs.lemmas.Map.Views.{any-filter_same}
use Rattle.java_tree.specs.declared.occurrence.MethodId.{MethodId}
use Rattle.java_tree.specs.declared.occurrence.TypeId.{TypeId}
use Rattle.java_tree.specs.declared.outline.OutlineMethod.{OutlineMethod}
use Rattle.java_model.specs.Names.Access.{is_public, visibility}
use Rattle.java_model.specs.Names.Environments.{Env, Declared, declared_at, id_of, object, same_id, type_id}
use Rattle.java_model.specs.Names.Lists.{Identifier, is_among}
use Rattle.java_model.specs.Names.Methods.{declared_methods, ids_from, inherits_method, method_modifiers, method_name, methods_by, methods_in, object_methods, public_methods, same_method}
use Rattle.java_model.specs.Names.Supertypes.{count, known_supers}
use Rattle.java_env.specs.Members.{method_count, methods_kept, methods_of}
use Rattle.java_env.specs.Walks.{Next, finds, Walk, here, on, IsReached}
use Rattle.java_env.specs.Inheriting.{is_bare, is_of_object, all_next, next_of, has_method}
use Rattle.java_env.proofs.Walking.{one-id, id-self, found-walk, walk-finds}

-- ---- methods by type and place

pub one-method : (m n : MethodId) → same_method m n ≡ true → m ≡ n
one-method m n e =
    let p = and_parts (same_id m.of n.of) (m.place == n.place) e in
    ap (λ t. record { of = t; place = m.place }) (one-id m.of n.of p.0) ∙ ap (λ k. record { of = n.of; place = k }) (eqb-true m.place n.place p.1)

pub method-self : (m : MethodId) → same_method m m ≡ true
method-self m = and_from (same_id m.of m.of) (m.place == m.place) (id-self m.of) (eq-eqb m.place m.place refl)

-- ---- lists

any-flat_map : {X Y : Type 0} (q : Y → Bool) (f : X → List Y) (xs : List X) → list_any q (flat_map f xs) ≡ list_any (λ x. list_any q (f x)) xs
any-flat_map q f [] = refl
any-flat_map q f (x ∷ xs) = list_any-append q (f x) (flat_map f xs) ∙ ap (λ b. list_any q (f x) || b) (any-flat_map q f xs)

any-alike : {X : Type 0} (p q : X → Bool) (xs : List X) → ((x : X) → p x ≡ q x) → list_any p xs ≡ list_any q xs
any-alike p q [] h = refl
any-alike p q (x ∷ xs) h = ap (λ b. b || list_any p xs) (h x) ∙ ap (λ b. q x || b) (any-alike p q xs h)

any-less : {X : Type 0} (q p : X → Bool) (xs : List X) → list_any q (filter p xs) ≡ true → list_any q xs ≡ true
any-less q p [] e = e
any-less q p (x ∷ xs) e = by (p x) (any-less q p xs) e
  where
    by : (b : Bool) → (list_any q (filter p xs) ≡ true → list_any q xs ≡ true) → list_any q (cond b (x ∷ filter p xs) (filter p xs)) ≡ true → (q x || list_any q xs) ≡ true
    by true h e = elim (or_cases (q x) (list_any q (filter p xs)) e) as (λ _. (q x || list_any q xs) ≡ true) [
      | inl y ↦ or_left (q x) (list_any q xs) y
      | inr n ↦ or_right (q x) (list_any q xs) (h n)
    ]
    by false h e = or_right (q x) (list_any q xs) (h e)

filtered : (m : MethodId) (p : MethodId → Bool) (ms : List MethodId) → is_among same_method m (filter p ms) ≡ (p m && is_among same_method m ms)
filtered m p ms = any-filter_same (same_method m) p (p m) (λ k e. ap p (sym (one-method m k e))) ms

-- ---- what is declared

pub place-among : (m : MethodId) (t : TypeId) (p : ℕ) (ms : List OutlineMethod) → m.of ≡ t → p ≤ m.place → m.place < p + length ms → is_among same_method m (ids_from t p ms) ≡ true
place-among m t p [] of l h = absurd (omega (arith, l, h))
place-among m t p (x ∷ xs) of l h = elim (cases_lt p m.place) as (λ _. is_among same_method m (ids_from t p (x ∷ xs)) ≡ true) [
  | inl lt ↦ or_right (same_method m (record { of = t; place = p })) (is_among same_method m (ids_from t (p + 1) xs)) (place-among m t (p + 1) xs of (omega (arith, lt)) (omega (arith, h)))
  | inr ge ↦
      let same : m.place ≡ p = omega (arith, l, ge) in
      or_left (same_method m (record { of = t; place = p })) (is_among same_method m (ids_from t (p + 1) xs))
      (and_from (same_id m.of t) (m.place == p) (eq-eqb m.of.0 t.0 (ap (λ (u : TypeId). u.0) of)) (eq-eqb m.place p same))
]

pub of-ids : (m : MethodId) (t : TypeId) (p : ℕ) (ms : List OutlineMethod) → is_among same_method m (ids_from t p ms) ≡ true → m.of ≡ t
of-ids m t p [] e = absurd (true≢false (sym e))
of-ids m t p (x ∷ xs) e = elim (or_cases (same_method m (record { of = t; place = p })) (is_among same_method m (ids_from t (p + 1) xs)) e) as (λ _. m.of ≡ t) [
  | inl y ↦ ap (λ (k : MethodId). k.of) (one-method m (record { of = t; place = p }) y)
  | inr n ↦ of-ids m t (p + 1) xs n
]

-- the id of what an environment has at an id
abbrev pub Ids : Env → Type 0
Ids env = (t : TypeId) (d : Declared) → declared_at env t ≡ Some d → id_of d ≡ t

pub its-owner : (env : Env) (m : MethodId) (u : TypeId) (name : Identifier) → Ids env → is_among same_method m (declared_methods env u name) ≡ true → m.of ≡ u
its-owner env m u name ids e = by (declared_at env u) refl (any-less (same_method m) (λ n. bytes_eq name (method_name env n)) (option_map_or methods_in (declared_at env u) []) e)
  where
    by : (o : Option Declared) → declared_at env u ≡ o → is_among same_method m (option_map_or methods_in o []) ≡ true → m.of ≡ u
    by None at k = absurd (true≢false (sym k))
    by (Some d) at k = of-ids m (id_of d) 0 d.type.methods k ∙ ids u d at

pub is-declared : (env : Env) (m : MethodId) (d : Declared) → Ids env → declared_at env m.of ≡ Some d → m.place < length d.type.methods → is_among same_method m (declared_methods env m.of (method_name env m)) ≡ true
is-declared env m d ids at l =
    filtered m (λ n. bytes_eq (method_name env m) (method_name env n)) (option_map_or methods_in (declared_at env m.of) [])
    ∙ and_from (bytes_eq (method_name env m) (method_name env m)) (is_among same_method m (option_map_or methods_in (declared_at env m.of) [])) (itself (method_name env m))
    (ap (λ o. is_among same_method m (option_map_or methods_in o [])) at ∙ place-among m (id_of d) 0 d.type.methods (sym (ids m.of d at)) (omega arith) (omega (arith, l)))
  where
    itself : (xs : List ℕ) → bytes_eq xs xs ≡ true
    itself [] = refl
    itself (x ∷ xs) = and_from (x == x) (bytes_eq xs xs) (eq-eqb x x refl) (itself xs)

-- ---- what is inherited

-- a method that Object gives an interface is one that it declares
of-object : (env : Env) (t : TypeId) (m : MethodId) (b : Bool) (name : Identifier) → is_among same_method m (cond b (public_methods env (object env) name) []) ≡ true
    → (b ≡ true) × (is_among same_method m (declared_methods env (object env) name) ≡ true)
of-object env t m true name e = (refl, any-less (same_method m) _ (declared_methods env (object env) name) e)
of-object env t m false name e = absurd (true≢false (sym e))

at-once : (next : Next) (test : TypeId → Bool) (d : ℕ) (t : TypeId) → test t ≡ true → finds next test d t ≡ true
at-once next test d t e = walk-finds next test d 0 t t (omega arith) (here t) e

abbrev declares : Env → MethodId → TypeId → Bool
declares env m u = is_among same_method m (declared_methods env u (method_name env m))

pub found : (env : Env) (m : MethodId) (d : ℕ) (t : TypeId) → is_among same_method m (methods_by d env t (method_name env m)) ≡ finds (next_of env m) (declares env m) d t
found env m zero t = refl
found env m (suc d) t =
    list_any-append (same_method m) (declared_methods env t (method_name env m)) (filter (inherits_method env t) (flat_map (λ s. methods_by d env s (method_name env m)) (known_supers env t) ++ object_methods env t (method_name env m)))
    ∙ ap (λ b. declares env m t || b)
    (filtered m (inherits_method env t) (flat_map (λ s. methods_by d env s (method_name env m)) (known_supers env t) ++ object_methods env t (method_name env m))
    ∙ ap (λ b. inherits_method env t m && b)
    (list_any-append (same_method m) (flat_map (λ s. methods_by d env s (method_name env m)) (known_supers env t)) (object_methods env t (method_name env m))
    ∙ ap (λ b. b || is_of_object env t m)
    (any-flat_map (same_method m) (λ s. methods_by d env s (method_name env m)) (known_supers env t)
    ∙ any-alike (λ s. is_among same_method m (methods_by d env s (method_name env m))) (finds (next_of env m) (declares env m) d) (known_supers env t) (λ s. found env m d s)))
    ∙ by (inherits_method env t m) (is_of_object env t m) refl)
  where
    by : (i o : Bool) → is_of_object env t m ≡ o → (i && (list_any (finds (next_of env m) (declares env m) d) (known_supers env t) || o))
        ≡ list_any (finds (next_of env m) (declares env m) d) (cond i (known_supers env t ++ cond o (object env ∷ []) []) [])
    by false o e = refl
    by true true e =
        sym (list_any-append (finds (next_of env m) (declares env m) d) (known_supers env t) (object env ∷ [])
        ∙ ap (λ b. list_any (finds (next_of env m) (declares env m) d) (known_supers env t) || (b || false))
        (at-once (next_of env m) (declares env m) d (object env) (of-object env t m (is_bare env t) (method_name env m) e).1))
    by true false e = sym (list_any-append (finds (next_of env m) (declares env m) d) (known_supers env t) [])

-- ---- each way along which a method is inherited goes by supertypes, and by Object from a bare interface

or-more : (t : TypeId) (xs ys : List TypeId) → is_among same_id t xs ≡ true → is_among same_id t (xs ++ ys) ≡ true
or-more t xs ys e = list_any-append (same_id t) xs ys ∙ or_left (is_among same_id t xs) (is_among same_id t ys) e

wider-next : (env : Env) (m : MethodId) (t u : TypeId) → is_among same_id u (next_of env m t) ≡ true → is_among same_id u (all_next env t) ≡ true
wider-next env m t u e = by (inherits_method env t m) (is_of_object env t m) refl e
  where
    end : (b o : Bool) → (o ≡ true → b ≡ true) → is_among same_id u (cond o (object env ∷ []) []) ≡ true → is_among same_id u (cond b (object env ∷ []) []) ≡ true
    end true true h k = k
    end true false h k = absurd (true≢false (sym k))
    end false true h k = absurd (true≢false (sym (h refl)))
    end false false h k = k

    by : (i o : Bool) → is_of_object env t m ≡ o → is_among same_id u (cond i (known_supers env t ++ cond o (object env ∷ []) []) []) ≡ true → is_among same_id u (all_next env t) ≡ true
    by false o at k = absurd (true≢false (sym k))
    by true o at k = elim (or_cases (is_among same_id u (known_supers env t)) (is_among same_id u (cond o (object env ∷ []) [])) (sym (list_any-append (same_id u) (known_supers env t) (cond o (object env ∷ []) [])) ∙ k)) as (λ _. is_among same_id u (all_next env t) ≡ true) [
      | inl y ↦ or-more u (known_supers env t) (cond (is_bare env t) (object env ∷ []) []) y
      | inr n ↦ list_any-append (same_id u) (known_supers env t) (cond (is_bare env t) (object env ∷ []) [])
          ∙ or_right (is_among same_id u (known_supers env t)) (is_among same_id u (cond (is_bare env t) (object env ∷ []) []))
          (end (is_bare env t) o (λ yes. (of-object env t m (is_bare env t) (method_name env m) (at ∙ yes)).0) n)
    ]

wider-walk : (env : Env) (m : MethodId) (n : ℕ) (t u : TypeId) → Walk (next_of env m) n t u → Walk (all_next env) n t u
wider-walk env m _ _ _ (here t) = here t
wider-walk env m _ _ u (on n s t _ h w) = on n s t u (wider-next env m s t h) (wider-walk env m n t u w)

-- ---- the methods of a type

both : (x y : Bool) → (x ≡ true → y ≡ true) → (y ≡ true → x ≡ true) → x ≡ y
both true true f g = refl
both false false f g = refl
both true false f g = sym (f refl)
both false true f g = g refl

-- what a type has by a name has that name
pub its-name : (env : Env) (m : MethodId) (d : ℕ) (t : TypeId) (name : Identifier) → is_among same_method m (methods_by d env t name) ≡ true → bytes_eq name (method_name env m) ≡ true
its-name env m d t name e = by d t e
  where
    named : (u : TypeId) → is_among same_method m (declared_methods env u name) ≡ true → bytes_eq name (method_name env m) ≡ true
    named u k = (and_parts (bytes_eq name (method_name env m)) (is_among same_method m (option_map_or methods_in (declared_at env u) [])) (sym (filtered m (λ n. bytes_eq name (method_name env n)) (option_map_or methods_in (declared_at env u) [])) ∙ k)).0

    each : (d : ℕ) (ts : List TypeId) → ((s : TypeId) → is_among same_method m (methods_by d env s name) ≡ true → bytes_eq name (method_name env m) ≡ true)
        → list_any (λ s. is_among same_method m (methods_by d env s name)) ts ≡ true → bytes_eq name (method_name env m) ≡ true
    each d [] h k = absurd (true≢false (sym k))
    each d (s ∷ ss) h k = elim (or_cases (is_among same_method m (methods_by d env s name)) (list_any (λ r. is_among same_method m (methods_by d env r name)) ss) k) [
      | inl y ↦ h s y
      | inr n ↦ each d ss h n
    ]

    by : (d : ℕ) (t : TypeId) → is_among same_method m (methods_by d env t name) ≡ true → bytes_eq name (method_name env m) ≡ true
    by zero t k = named t k
    by (suc d) t k = elim (or_cases (is_among same_method m (declared_methods env t name)) (is_among same_method m (filter (inherits_method env t) (flat_map (λ s. methods_by d env s name) (known_supers env t) ++ object_methods env t name)))
        (sym (list_any-append (same_method m) (declared_methods env t name) (filter (inherits_method env t) (flat_map (λ s. methods_by d env s name) (known_supers env t) ++ object_methods env t name))) ∙ k)) [
          | inl y ↦ named t y
          | inr n ↦ elim (or_cases (is_among same_method m (flat_map (λ s. methods_by d env s name) (known_supers env t))) (is_among same_method m (object_methods env t name))
              (sym (list_any-append (same_method m) (flat_map (λ s. methods_by d env s name) (known_supers env t)) (object_methods env t name))
              ∙ any-less (same_method m) (inherits_method env t) (flat_map (λ s. methods_by d env s name) (known_supers env t) ++ object_methods env t name) n)) [
                | inl y ↦ each d (known_supers env t) (by d) (sym (any-flat_map (same_method m) (λ s. methods_by d env s name) (known_supers env t)) ∙ y)
                | inr o ↦ named (object env) (of-object env t m (is_bare env t) name o).1
              ]
        ]

-- whether a type has a method that is declared
pub reaches : (env : Env) (m : MethodId) (d : Declared) (t : TypeId) (seen : TypeId → Bool) → Ids env → declared_at env m.of ≡ Some d → m.place < length d.type.methods
    → IsReached (next_of env m) (count env) t seen → has_method env t (method_name env m) m ≡ seen m.of
reaches env m d t seen ids at l r = found env m (count env) t ∙ both (finds (next_of env m) (declares env m) (count env) t) (seen m.of) forth back
  where
    forth : finds (next_of env m) (declares env m) (count env) t ≡ true → seen m.of ≡ true
    forth e =
        let w = found-walk (next_of env m) (declares env m) (count env) t e in
        ap seen (its-owner env m w.1 (method_name env m) ids w.4) ∙ r.complete w.0 w.1 w.2 w.3

    back : seen m.of ≡ true → finds (next_of env m) (declares env m) (count env) t ≡ true
    back e = let w = r.sound m.of e in walk-finds (next_of env m) (declares env m) (count env) w.0 t m.of w.1 w.2 (is-declared env m d ids at l)

-- no other type declares any
pub elsewhere : (env : Env) (m : MethodId) (t : TypeId) (name : Identifier) (seen : TypeId → Bool) → Ids env → IsReached (all_next env) (count env) t seen → has_method env t name m ≡ true → seen m.of ≡ true
elsewhere env m t name seen ids r e =
    let named : name ≡ method_name env m = (bytes_eq-Decides name (method_name env m)).0 (its-name env m (count env) t name e) in
    let w = found-walk (next_of env m) (declares env m) (count env) t (sym (found env m (count env) t) ∙ ap (λ n. has_method env t n m) (sym named) ∙ e) in
    ap seen (its-owner env m w.1 (method_name env m) ids w.4) ∙ r.complete w.0 w.1 w.2 (wider-walk env m w.0 t w.1 w.3)

-- ---- the public methods of Object

pub not-of-object : (env : Env) (m : MethodId) → Ids env → (m.of.0 ≡ (object env).0 → ⊥) → is_among same_method m (public_methods env (object env) (method_name env m)) ≡ false
not-of-object env m ids off = false_from_ne_true (is_among same_method m (public_methods env (object env) (method_name env m)))
    (λ e. off (ap (λ (t : TypeId). t.0) (its-owner env m (object env) (method_name env m) ids (any-less (same_method m) _ (declared_methods env (object env) (method_name env m)) e))))

below-of-ids : (m : MethodId) (t : TypeId) (p : ℕ) (ms : List OutlineMethod) → is_among same_method m (ids_from t p ms) ≡ true → m.place < p + length ms
below-of-ids m t p [] e = absurd (true≢false (sym e))
below-of-ids m t p (x ∷ xs) e = elim (or_cases (same_method m (record { of = t; place = p })) (is_among same_method m (ids_from t (p + 1) xs)) e) as (λ _. m.place < p + length (x ∷ xs)) [
  | inl y ↦ let s = ap (λ (k : MethodId). k.place) (one-method m (record { of = t; place = p }) y) in omega (arith, s)
  | inr n ↦ let r = below-of-ids m t (p + 1) xs n in omega (arith, r)
]

pub not-declared : (env : Env) (m : MethodId) → method_count env m.of ≤ m.place → m.of.0 ≡ (object env).0 → is_among same_method m (public_methods env (object env) (method_name env m)) ≡ false
not-declared env m over at = false_from_ne_true (is_among same_method m (public_methods env (object env) (method_name env m)))
    (λ e. by (declared_at env (object env)) refl (any-less (same_method m) (λ n. bytes_eq (method_name env m) (method_name env n)) (option_map_or methods_in (declared_at env (object env)) []) (any-less (same_method m) _ (declared_methods env (object env) (method_name env m)) e)))
  where
    same : m.of ≡ object env
    same = ap type_id at

    by : (o : Option Declared) → declared_at env (object env) ≡ o → is_among same_method m (option_map_or methods_in o []) ≡ true → ⊥
    by None is k = true≢false (sym k)
    by (Some d) is k =
        let l = below-of-ids m (id_of d) 0 d.type.methods k in
        let n : method_count env m.of ≡ length d.type.methods = ap (λ u. methods_kept (declared_at env u)) same ∙ ap methods_kept is in
        absurd (omega (arith, l, n, over))

abbrev ObjectTest : Env → TypeId → MethodId → Bool
ObjectTest env o n = option_map_or (λ d. is_public (visibility d (method_modifiers env n))) (declared_at env o) false

and-true : (x y : Bool) → y ≡ true → x ≡ (x && y)
and-true true y e = sym e
and-true false y e = refl

pub of-object-is : (env : Env) (m : MethodId) (b : Bool) → Ids env → m.place < method_count env m.of → m.of.0 ≡ (object env).0 → b ≡ option_map_or (λ d. is_public (visibility d (method_modifiers env m))) (declared_at env m.of) false
    → b ≡ is_among same_method m (public_methods env (object env) (method_name env m))
of-object-is env m b ids l at e = by (declared_at env m.of) refl
  where
    same : m.of ≡ object env
    same = ap type_id at

    by : (o : Option Declared) → declared_at env m.of ≡ o → b ≡ is_among same_method m (public_methods env (object env) (method_name env m))
    by None is = let n : method_count env m.of ≡ 0 = ap methods_kept is in absurd (omega (arith, l, n))
    by (Some d) is =
        let n : method_count env m.of ≡ length d.type.methods = ap methods_kept is in
        let there = is-declared env m d ids is (omega (arith, l, n)) in
        e ∙ and-true (ObjectTest env m.of m) (is_among same_method m (declared_methods env m.of (method_name env m))) there
        ∙ sym (filtered m (ObjectTest env m.of) (declared_methods env m.of (method_name env m)))
        ∙ ap (λ o. is_among same_method m (public_methods env o (method_name env m))) same

pub reaches-declared : (env : Env) (m : MethodId) (t : TypeId) (seen : TypeId → Bool) (b : Bool) → Ids env → m.place < method_count env m.of → IsReached (next_of env m) (count env) t seen
    → b ≡ seen m.of → b ≡ has_method env t (method_name env m) m
reaches-declared env m t seen b ids l r e = by (declared_at env m.of) refl
  where
    by : (o : Option Declared) → declared_at env m.of ≡ o → b ≡ has_method env t (method_name env m) m
    by None is = let n : method_count env m.of ≡ 0 = ap methods_kept is in absurd (omega (arith, l, n))
    by (Some d) is = let n : method_count env m.of ≡ length d.type.methods = ap methods_kept is in e ∙ sym (reaches env m d t seen ids is (omega (arith, l, n)) r)

pub other-name : (env : Env) (m : MethodId) (t : TypeId) (name : Identifier) → (name ≡ method_name env m → ⊥) → false ≡ has_method env t name m
other-name env m t name off = sym (false_from_ne_true (has_method env t name m) (λ e. off ((bytes_eq-Decides name (method_name env m)).0 (its-name env m (count env) t name e))))

pub own-methods : (env : Env) (m : MethodId) (t : TypeId) → Ids env → is_among same_method m (methods_of env t) ≡ true → m.of ≡ t
own-methods env m t ids e = by (declared_at env t) refl e
  where
    by : (o : Option Declared) → declared_at env t ≡ o → is_among same_method m (option_map_or methods_in o []) ≡ true → m.of ≡ t
    by None at k = absurd (true≢false (sym k))
    by (Some d) at k = of-ids m (id_of d) 0 d.type.methods k ∙ ids t d at

pub named-so : (env : Env) (m : MethodId) (t : TypeId) (name : Identifier) (b had : Bool) → b ≡ bytes_eq name (method_name env m) → b ≡ true → had ≡ has_method env t (method_name env m) m → had ≡ has_method env t name m
named-so env m t name b had e k h = h ∙ ap (λ n. has_method env t n m) (sym ((bytes_eq-Decides name (method_name env m)).0 (sym e ∙ k)))

pub named-otherwise : (env : Env) (m : MethodId) (t : TypeId) (name : Identifier) (b : Bool) → b ≡ bytes_eq name (method_name env m) → b ≡ false → false ≡ has_method env t name m
named-otherwise env m t name b e k = sym (false_from_ne_true (has_method env t name m) (λ h. true≢false (sym (its-name env m (count env) t name h) ∙ sym e ∙ k)))
