-- The look-up with types in hand: more steps than there are types answer no more.
use Rattle.std.proofs.Common.{◌≡◌, ◌<◌, ◌≤◌, ℕ, zero, suc, ◌==◌, ◌||◌, Bool, true, false, cond, List, [], ◌∷◌, Option, Some, None, is_some, flat_map, inl, inr, refl, sym, ap, ◌∙◌, arith, true≢false}
use Rattle.std.specs.Option.{option_map_or}
use Rattle.std.proofs.lemmas.Bool.{cases_order, eqb-true, eq-eqb}
use Rattle.std.proofs.lemmas.Option.{slice_get_within}
use Rattle.java_tree.specs.declared.occurrence.TypeId.{TypeId}
use Rattle.java_model.specs.Names.Lists.{Identifier, is_among, or_else, unless}
use Rattle.java_model.specs.Names.Environments.{Env, Declared, declared, declared_at, type_id, same_id}
use Rattle.java_model.specs.Names.TypeNames.{Ask, class_of}
use Rattle.java_model.specs.Names.Supertypes.{count, declared_types, inherited_types, supers_of, supers_asking, member_of, header_ask, header_supers}
use Rattle.java_types.specs.Entries.{is_declared}
use Rattle.java_supers.specs.Asking.{inherited_asking}
use Rattle.java_supers.specs.Keeping.{member}

-- HOW MANY of the first types aren't in hand
others : ℕ → List TypeId → ℕ
others zero hand = 0
others (suc n) hand = cond (is_among same_id (type_id n) hand) (others n hand) (suc (others n hand))

few : (n : ℕ) (hand : List TypeId) → others n hand ≤ n
unfolding others
few zero hand = omega arith
few (suc n) hand = by (is_among same_id (type_id n) hand) (few n hand)
  where
    by : (b : Bool) → others n hand ≤ n → cond b (others n hand) (suc (others n hand)) ≤ suc n
    by true l = omega (arith, l)
    by false l = omega (arith, l)

with-one : (a b : Bool) (x y : ℕ) → x ≤ y → cond (a || b) x (suc x) ≤ cond b y (suc y)
with-one true true x y l = l
with-one true false x y l = omega (arith, l)
with-one false true x y l = l
with-one false false x y l = omega (arith, l)

no-more : (n : ℕ) (t : TypeId) (hand : List TypeId) → others n (t ∷ hand) ≤ others n hand
unfolding others
no-more zero t hand = omega arith
no-more (suc n) t hand = with-one (same_id (type_id n) t) (is_among same_id (type_id n) hand) (others n (t ∷ hand)) (others n hand) (no-more n t hand)

at-one : (a b : Bool) (x y : ℕ) → a ≡ true → b ≡ false → x ≤ y → cond (a || b) x (suc x) < cond b y (suc y)
at-one true true x y h k l = absurd (true≢false k)
at-one true false x y h k l = omega (arith, l)
at-one false b x y h k l = absurd (true≢false (sym h))

past-one : (a b : Bool) (x y : ℕ) → a ≡ false → x < y → cond (a || b) x (suc x) < cond b y (suc y)
past-one true b x y h l = absurd (true≢false h)
past-one false true x y h l = l
past-one false false x y h l = omega (arith, l)

not-last : (n k : ℕ) → k < suc n → (n == k) ≡ false → k < n
not-last n k l e = elim (cases_order n k) [
  | inl s ↦ absurd (true≢false (sym (eq-eqb n k s) ∙ e))
  | inr o ↦ elim o [
    | inl g ↦ absurd (omega (arith, l, g))
    | inr g ↦ g
  ]
]

one-less : (n : ℕ) (t : TypeId) (hand : List TypeId) → t.0 < n → is_among same_id t hand ≡ false → others n (t ∷ hand) < others n hand
unfolding others
one-less zero t hand l m = absurd (omega (arith, l))
one-less (suc n) t hand l m = by (same_id (type_id n) t) refl (λ k. one-less n t hand k m)
  where
    by : (a : Bool) → same_id (type_id n) t ≡ a → (t.0 < n → others n (t ∷ hand) < others n hand)
        → cond (same_id (type_id n) t || is_among same_id (type_id n) hand) (others n (t ∷ hand)) (suc (others n (t ∷ hand)))
        < cond (is_among same_id (type_id n) hand) (others n hand) (suc (others n hand))
    by true e rest =
        at-one (same_id (type_id n) t) (is_among same_id (type_id n) hand) (others n (t ∷ hand)) (others n hand) e
        (ap (λ k. is_among same_id (type_id k) hand) (eqb-true n t.0 e) ∙ m) (no-more n t hand)
    by false e rest =
        past-one (same_id (type_id n) t) (is_among same_id (type_id n) hand) (others n (t ∷ hand)) (others n hand) e (rest (not-last n t.0 l e))

-- one that isn't declared has no supertypes, whatever is answered
unasked : (env : Env) (t : TypeId) (name : Identifier) (o : Option Declared) → declared_at env t ≡ o → is_some o ≡ false → (ask : Ask) → inherited_asking env ask t name ≡ []
unasked env t name None e past ask = ap (λ x. inherited_types env ask t name (flat_map class_of (option_map_or (supers_of env ask) x []))) e
unasked env t name (Some d) e past ask = absurd (true≢false past)

-- ONE STEP MORE
same-inner : (env : Env) (hand : List TypeId) (t : TypeId) (name : Identifier) (more less : Ask)
    → (is_among same_id t hand ≡ false → is_declared env t ≡ true → (s : TypeId) (n : Identifier) → more s n ≡ less s n)
    → (b : Bool) → is_among same_id t hand ≡ b → (c : Bool) → is_declared env t ≡ c
    → unless b (λ _. inherited_asking env more t name) ≡ unless b (λ _. inherited_asking env less t name)
same-inner env hand t name more less same true m c h = refl
same-inner env hand t name more less same false m true h = let one : more ≡ less = λ i s n. same m h s n i in ap (λ a. inherited_asking env a t name) one
same-inner env hand t name more less same false m false h =
    unasked env t name (declared_at env t) refl h more ∙ sym (unasked env t name (declared_at env t) refl h less)

below : (env : Env) (t : TypeId) → is_declared env t ≡ true → t.0 < count env
below env t h = by (declared_at env t) refl h
  where
    by : (o : Option Declared) → declared_at env t ≡ o → is_some o ≡ true → t.0 < count env
    by None e k = absurd (true≢false (sym k))
    by (Some d) e k = slice_get_within (declared env) t.0 d e

deep : (env : Env) (d : ℕ) (hand : List TypeId) (t : TypeId) (name : Identifier) → others (count env) hand < d → member_of (suc d) env hand t name ≡ member_of d env hand t name
deep env zero hand t name l = absurd (omega (arith, l))
deep env (suc d) hand t name l =
    ap (λ ts. or_else (declared_types env t name) (λ (_ : Unit {0}). ts))
    (same-inner env hand t name (member_of (suc d) env (t ∷ hand)) (member_of d env (t ∷ hand))
    (λ m h s n. let k = one-less (count env) t hand (below env t h) m in deep env d (t ∷ hand) s n (omega (arith, k, l)))
    (is_among same_id t hand) refl (is_declared env t) refl)

-- THE LAWS
pub if-declared : (env : Env) (hand : List TypeId) (t : TypeId) (name : Identifier) (u : TypeId) (us : List TypeId) → declared_types env t name ≡ u ∷ us → member env hand t name ≡ u ∷ us
unfolding member
if-declared env hand t name u us h =
    ap (λ ts. or_else ts (λ _. unless (is_among same_id t hand) (λ _. inherited_asking env (member_of (count env) env (t ∷ hand)) t name))) h

opened : (env : Env) (hand : List TypeId) (t : TypeId) (name : Identifier) (b : Bool) → declared_types env t name ≡ [] → is_among same_id t hand ≡ b
    → member env hand t name ≡ unless b (λ _. inherited_asking env (member_of (count env) env (t ∷ hand)) t name)
unfolding member
opened env hand t name b h m =
    ap (λ ts. or_else ts (λ _. unless (is_among same_id t hand) (λ _. inherited_asking env (member_of (count env) env (t ∷ hand)) t name))) h
    ∙ ap (λ c. unless c (λ _. inherited_asking env (member_of (count env) env (t ∷ hand)) t name)) m

pub if-in-hand : (env : Env) (hand : List TypeId) (t : TypeId) (name : Identifier) → declared_types env t name ≡ [] → is_among same_id t hand ≡ true → member env hand t name ≡ []
if-in-hand env hand t name h m = opened env hand t name true h m

-- the last step isn't needed where a type is in hand
one-deeper : (env : Env) (hand : List TypeId) (t : TypeId) → is_among same_id t hand ≡ false → is_declared env t ≡ true → (s : TypeId) (n : Identifier)
    → member_of (count env) env (t ∷ hand) s n ≡ member env (t ∷ hand) s n
unfolding member
one-deeper env hand t m h s n =
    let k = one-less (count env) t hand (below env t h) m in let f = few (count env) hand in sym (deep env (count env) (t ∷ hand) s n (omega (arith, k, f)))

pub if-inherited : (env : Env) (hand : List TypeId) (t : TypeId) (name : Identifier) → declared_types env t name ≡ [] → is_among same_id t hand ≡ false
    → member env hand t name ≡ inherited_asking env (member env (t ∷ hand)) t name
if-inherited env hand t name h m =
    opened env hand t name false h m
    ∙ same-inner env hand t name (member_of (count env) env (t ∷ hand)) (member env (t ∷ hand)) (one-deeper env hand t) false m (is_declared env t) refl

pub if-undeclared : (env : Env) (hand : List TypeId) (t : TypeId) (name : Identifier) → declared_types env t name ≡ [] → is_declared env t ≡ false → member env hand t name ≡ []
if-undeclared env hand t name h past = by (is_among same_id t hand) refl
  where
    by : (b : Bool) → is_among same_id t hand ≡ b → member env hand t name ≡ []
    by true m = if-in-hand env hand t name h m
    by false m = if-inherited env hand t name h m ∙ unasked env t name (declared_at env t) refl past (member env (t ∷ hand))

pub in-its-header : (env : Env) (t : TypeId) → supers_asking env (member env (t ∷ [])) t ≡ header_supers env t
in-its-header env t = by (is_declared env t) refl
  where
    none : (o : Option Declared) → declared_at env t ≡ o → is_some o ≡ false → (ask : Ask) → supers_asking env ask t ≡ []
    none None e k ask = ap (λ x. option_map_or (supers_of env ask) x []) e
    none (Some d) e k ask = absurd (true≢false k)

    by : (b : Bool) → is_declared env t ≡ b → supers_asking env (member env (t ∷ [])) t ≡ header_supers env t
    by true h = let one : member env (t ∷ []) ≡ member_of (count env) env (t ∷ []) = λ i s n. sym (one-deeper env [] t refl h s n) i in ap (λ a. supers_asking env a t) one
    by false h = none (declared_at env t) refl h (member env (t ∷ [])) ∙ sym (none (declared_at env t) refl h (member_of (count env) env (t ∷ [])))

pub asked-in-header : (env : Env) (t : TypeId) → is_declared env t ≡ true → member env (t ∷ []) ≡ header_ask env t
asked-in-header env t h = λ i s n. sym (one-deeper env [] t refl h s n) i
