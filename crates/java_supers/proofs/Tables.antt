-- Tables of all types, and what their lists lead to.
use Rattle.std.proofs.Common.{◌≡◌, ◌+◌, ◌<◌, ◌≤◌, ℕ, zero, suc, true, false, cond, List, [], ◌∷◌, ◌++◌, Option, Some, None, is_some, inl, inr, length, map, option_map, get_or, refl, sym, ap, ◌∙◌, arith, length-append}
use Rattle.std.specs.Prelude.{slice_get, unwrap_or}
use Rattle.std.specs.List.{flat_map}
use Rattle.std.specs.Option.{option_map_or}
use Rattle.std.proofs.lemmas.Bool.{cases_lt, true≢false}
use Rattle.std.proofs.lemmas.List.{length-map}
use Rattle.std.proofs.lemmas.Option.{none-some, same_Some, slice_get-get_or, slice_get-map, slice_get_past}
use Rattle.java_tree.specs.declared.occurrence.TypeId.{TypeId}
use Rattle.java_tree.specs.declared.types.JType.{JType}
use Rattle.java_tree.specs.declared.types.JType.TheVariants as types
use Rattle.java_model.specs.Names.Lists.{is_among, fresh, reached}
use Rattle.java_model.specs.Names.Environments.{Env, Declared, declared, declared_at, same_id, type_id}
use Rattle.java_model.specs.Names.Supertypes.{ancestors, count, header_ask, header_supers, is_on_cycle, known_supers, leads_to, supers, supers_of}
use Rattle.java_model.specs.Names.TypeNames.{class_of}
use Rattle.java_types.specs.Entries.{is_declared}
use Rattle.java_supers.specs.Reaching.{next_in, reached_in, HasFirst, HasAll}

-- ---- one more

got-old : {X : Type 0} (xs : List X) (x y : X) (n : ℕ) → slice_get xs n ≡ Some y → slice_get (xs ++ x ∷ []) n ≡ Some y
got-old [] x y n e = absurd (none-some y e)
got-old (z ∷ xs) x y zero e = e
got-old (z ∷ xs) x y (suc n) e = got-old xs x y n e

got-last : {X : Type 0} (xs : List X) (x : X) → slice_get (xs ++ x ∷ []) (length xs) ≡ Some x
got-last [] x = refl
got-last (z ∷ xs) x = got-last xs x

pub has-none : {X : Type 0} (of : TypeId → X) (table : List X) → table ≡ [] → HasFirst of 0 table
has-none of table none = record { many_are = ap length none; each = λ n h. absurd (omega (arith, h)) }

pub has-more : {X : Type 0} (of : TypeId → X) (n : ℕ) (table after : List X) (x : X) → HasFirst of n table → x ≡ of (type_id n) → after ≡ table ++ x ∷ [] → HasFirst of (n + 1) after
has-more of n table after x h e is = record {
  many_are = let l = length-append table (x ∷ []) in let a = ap length is in let m = h.many_are in omega (arith, l, a, m);
  each = λ k l. elim (cases_lt k n) as (λ _. slice_get after k ≡ Some (of (type_id k))) [
    | inl lt ↦ ap (λ ts. slice_get ts k) is ∙ got-old table x (of (type_id k)) k (h.each k lt)
    | inr le ↦ let same : k ≡ n = omega (arith, l, le) in
        ap (slice_get after) (same ∙ sym h.many_are) ∙ ap (λ ts. slice_get ts (length table)) is ∙ got-last table x ∙ ap Some e ∙ ap (λ j. Some (of (type_id j))) (sym same)
  ];
}

pub has-all : {X : Type 0} (of : TypeId → X) (env : Env) (n : ℕ) (table : List X) → HasFirst of n table → n ≡ count env → HasAll of env table
has-all of env n table h same = record { many_are = h.many_are ∙ same; each = λ k l. h.each k (omega (arith, l, same)) }

pub its-own : {X : Type 0} (of : TypeId → X) (env : Env) (table : List X) (t : TypeId) (x : X) → HasAll of env table → slice_get table t.0 ≡ Some x → t.0 < count env → x ≡ of t
its-own of env table t x h at l = same_Some x (of t) (sym at ∙ h.each t.0 l)

-- ---- types that aren't declared

undeclared-header : (env : Env) (s : TypeId) → is_declared env s ≡ false → header_supers env s ≡ []
undeclared-header env s h = by (declared_at env s) refl h
  where
    by : (o : Option Declared) → declared_at env s ≡ o → is_some o ≡ false → header_supers env s ≡ []
    by None e k = ap (λ x. option_map_or (supers_of env (header_ask env s)) x []) e
    by (Some d) e k = absurd (true≢false k)

alone : (n : ℕ) (next : TypeId → List TypeId) (s : TypeId) → next s ≡ [] → reached (suc n) same_id next (s ∷ []) [] ≡ []
alone n next s e = ap (λ ts. reached n same_id next (fresh same_id [] (ts ++ [])) ([] ++ fresh same_id [] (ts ++ []))) e ∙ by n
  where
    by : (n : ℕ) → reached n same_id next [] [] ≡ []
    by zero = refl
    by (suc m) = refl

undeclared-supers : (env : Env) (s : TypeId) → is_declared env s ≡ false → supers env s ≡ []
undeclared-supers env s h =
    let none = undeclared-header env s h in
    ap (λ ts. cond (is_among same_id s ts) (types.Absent [] ∷ []) (header_supers env s)) (alone (count env) (λ u. flat_map class_of (header_supers env u)) s (ap (flat_map class_of) none)) ∙ none

-- ---- what a table leads to

past : (env : Env) (s : TypeId) → count env ≤ s.0 → is_declared env s ≡ false
past env s l = ap is_some (slice_get_past (declared env) s.0 l)

next-is : (env : Env) (of : TypeId → List JType) (table : List (List JType)) (nexts : List (List TypeId)) → HasAll of env table → ((s : TypeId) → is_declared env s ≡ false → of s ≡ [])
    → nexts ≡ map (flat_map class_of) table → (s : TypeId) → next_in nexts s ≡ flat_map class_of (of s)
next-is env of table nexts h none is s =
    ap (λ ns. next_in ns s) is ∙ ap (λ o. unwrap_or o []) (slice_get-map (flat_map class_of) table s.0)
    ∙ elim (cases_lt s.0 (count env)) as (λ _. unwrap_or (option_map (flat_map class_of) (slice_get table s.0)) [] ≡ flat_map class_of (of s)) [
      | inl l ↦ ap (λ o. unwrap_or (option_map (flat_map class_of) o) []) (h.each s.0 l)
      | inr g ↦ ap (λ o. unwrap_or (option_map (flat_map class_of) o) []) (slice_get_past table s.0 (let m = h.many_are in omega (arith, m, g)))
          ∙ sym (ap (flat_map class_of) (none s (past env s g)))
    ]

leads : (env : Env) (of : TypeId → List JType) (table : List (List JType)) (nexts : List (List TypeId)) → HasAll of env table → ((s : TypeId) → is_declared env s ≡ false → of s ≡ [])
    → nexts ≡ map (flat_map class_of) table → (t : TypeId) → reached_in nexts t ≡ leads_to env (λ s. flat_map class_of (of s)) t
leads env of table nexts h none is t =
    let f : next_in nexts ≡ (λ s. flat_map class_of (of s)) = λ i s. next-is env of table nexts h none is s i in
    let many : length nexts ≡ count env = ap length is ∙ length-map table (flat_map class_of) ∙ h.many_are in
    ap (λ n. reached (suc n) same_id (next_in nexts) (t ∷ []) []) many ∙ ap (λ g. reached (suc (count env)) same_id g (t ∷ []) []) f

pub its-supers : (env : Env) (headers : List (List JType)) (nexts : List (List TypeId)) (t : TypeId) (own header : List JType) → HasAll (header_supers env) env headers
    → nexts ≡ map (flat_map class_of) headers → own ≡ cond (is_among same_id t (reached_in nexts t)) (types.Absent [] ∷ []) header → header ≡ header_supers env t → own ≡ supers env t
its-supers env headers nexts t own header h is made at =
    made ∙ ap (λ ts. cond (is_among same_id t ts) (types.Absent [] ∷ []) header) (leads env (header_supers env) headers nexts h (undeclared-header env) is t)
    ∙ ap (λ hs. cond (is_on_cycle env t) (types.Absent [] ∷ []) hs) at

pub its-ancestors : (env : Env) (table : List (List JType)) (nexts : List (List TypeId)) (t : TypeId) (own : List TypeId) → HasAll (supers env) env table
    → nexts ≡ map (flat_map class_of) table → own ≡ reached_in nexts t → own ≡ ancestors env t
its-ancestors env table nexts t own h is made = made ∙ leads env (supers env) table nexts h (undeclared-supers env) is t

pub known-next : (env : Env) (table : List (List JType)) (nexts : List (List TypeId)) (t : TypeId) → HasAll (supers env) env table → nexts ≡ map (flat_map class_of) table
    → next_in nexts t ≡ known_supers env t
known-next env table nexts t h is = next-is env (supers env) table nexts h (undeclared-supers env) is t

-- ---- the entry of a type

declared-below : (env : Env) (t : TypeId) → is_declared env t ≡ true → t.0 < count env
declared-below env t h = elim (cases_lt t.0 (count env)) [
  | inl l ↦ l
  | inr g ↦ absurd (true≢false (sym h ∙ past env t g))
]

pub its-entry : {X : Type 0} (of : TypeId → X) (env : Env) (table seen : List X) (t : TypeId) (x : X) → HasAll of env table → seen ≡ table → is_declared env t ≡ true → x ≡ get_or seen t.0 x → x ≡ of t
its-entry of env table seen t x h same there at =
    let below = declared-below env t there in
    let within : t.0 < length table = let m = h.many_are in omega (arith, below, m) in
    its-own of env table t x h (slice_get-get_or table t.0 x within ∙ ap Some (ap (λ xs. get_or xs t.0 x) (sym same) ∙ sym at)) below
