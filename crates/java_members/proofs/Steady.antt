-- A look-up along supertypes finds no more in more steps than there are types, since supertypes have no cycle.
use Rattle.std.proofs.Common.{◌≡◌, ◌<◌, ◌≤◌, ℕ, zero, suc, ◌==◌, ◌||◌, Bool, true, false, cond, List, [], ◌∷◌, ◌++◌, Option, Some, None, Contains, flat_map, inl, inr, refl, sym, ap, ◌∙◌, subst, arith, true≢false}
use Rattle.std.specs.List.{list_any}
use Rattle.std.proofs.lemmas.Bool.{cases_order, eqb-true, eq-eqb, or_cases}
use Rattle.std.proofs.lemmas.Option.{slice_get_within}
use Rattle.java_tree.specs.declared.occurrence.TypeId.{TypeId}
use Rattle.java_model.specs.Names.Lists.{is_among}
use Rattle.java_model.specs.Names.Environments.{Env, Declared, declared, declared_at, type_id, same_id}
use Rattle.java_model.specs.Names.Laws.{SubIsTransitive, SupertypesHaveNoCycle}
use Rattle.java_model.specs.Names.Supertypes.{Sub, count, direct, known_supers}

-- HOW MANY of the first types aren't in hand
others : ℕ → List TypeId → ℕ
others zero hand = 0
others (suc n) hand = cond (is_among same_id (type_id n) hand) (others n hand) (suc (others n hand))

few : (n : ℕ) (hand : List TypeId) → others n hand ≤ n
unfolding others
few zero hand = omega arith
few (suc n) hand = by (is_among same_id (type_id n) hand) (few n hand)
  where
    by : (b : Bool) → others n hand ≤ n → cond b (others n hand) (suc (others n hand)) ≤ suc n
    by true l = omega (arith, l)
    by false l = omega (arith, l)

with-one : (a b : Bool) (x y : ℕ) → x ≤ y → cond (a || b) x (suc x) ≤ cond b y (suc y)
with-one true true x y l = l
with-one true false x y l = omega (arith, l)
with-one false true x y l = l
with-one false false x y l = omega (arith, l)

no-more : (n : ℕ) (t : TypeId) (hand : List TypeId) → others n (t ∷ hand) ≤ others n hand
unfolding others
no-more zero t hand = omega arith
no-more (suc n) t hand = with-one (same_id (type_id n) t) (is_among same_id (type_id n) hand) (others n (t ∷ hand)) (others n hand) (no-more n t hand)

at-one : (a b : Bool) (x y : ℕ) → a ≡ true → b ≡ false → x ≤ y → cond (a || b) x (suc x) < cond b y (suc y)
at-one true true x y h k l = absurd (true≢false k)
at-one true false x y h k l = omega (arith, l)
at-one false b x y h k l = absurd (true≢false (sym h))

past-one : (a b : Bool) (x y : ℕ) → a ≡ false → x < y → cond (a || b) x (suc x) < cond b y (suc y)
past-one true b x y h l = absurd (true≢false h)
past-one false true x y h l = l
past-one false false x y h l = omega (arith, l)

not-last : (n k : ℕ) → k < suc n → (n == k) ≡ false → k < n
not-last n k l e = elim (cases_order n k) [
  | inl s ↦ absurd (true≢false (sym (eq-eqb n k s) ∙ e))
  | inr o ↦ elim o [
    | inl g ↦ absurd (omega (arith, l, g))
    | inr g ↦ g
  ]
]

one-less : (n : ℕ) (t : TypeId) (hand : List TypeId) → t.0 < n → is_among same_id t hand ≡ false → others n (t ∷ hand) < others n hand
unfolding others
one-less zero t hand l m = absurd (omega (arith, l))
one-less (suc n) t hand l m = by (same_id (type_id n) t) refl (λ k. one-less n t hand k m)
  where
    by : (a : Bool) → same_id (type_id n) t ≡ a → (t.0 < n → others n (t ∷ hand) < others n hand)
        → cond (same_id (type_id n) t || is_among same_id (type_id n) hand) (others n (t ∷ hand)) (suc (others n (t ∷ hand)))
        < cond (is_among same_id (type_id n) hand) (others n hand) (suc (others n hand))
    by true e rest =
        at-one (same_id (type_id n) t) (is_among same_id (type_id n) hand) (others n (t ∷ hand)) (others n hand) e
        (ap (λ k. is_among same_id (type_id k) hand) (eqb-true n t.0 e) ∙ m) (no-more n t hand)
    by false e rest =
        past-one (same_id (type_id n) t) (is_among same_id (type_id n) hand) (others n (t ∷ hand)) (others n hand) e (rest (not-last n t.0 l e))

-- A LOOK-UP, which asks the direct supertypes alone, and starts anew at a type that isn't declared
pub record Step {X : Type 0} (env : Env) (by : ℕ → TypeId → List X) (step : (TypeId → List X) → TypeId → List X) : Type 0 where
  pub next : (d : ℕ) (t : TypeId) → by (suc d) t ≡ step (by d) t
  pub asks : (f g : TypeId → List X) (t : TypeId) → ((s : TypeId) → Contains (known_supers env t) s → f s ≡ g s) → step f t ≡ step g t
  pub starts : (f : TypeId → List X) (t : TypeId) → declared_at env t ≡ None → step f t ≡ by 0 t

-- All in hand are subtypes.
Above : Env → List TypeId → TypeId → Type 0
Above env hand t = (h : TypeId) → is_among same_id h hand ≡ true → Sub env h t

none-there : (env : Env) (hand : List TypeId) (t : TypeId) → SupertypesHaveNoCycle → Above env hand t → is_among same_id t hand ≡ false
unfolding Above
none-there env hand t acyclic above = by (is_among same_id t hand) refl
  where
    by : (b : Bool) → is_among same_id t hand ≡ b → b ≡ false
    by true e = absurd (acyclic env t (above t e))
    by false e = refl

one-more : (env : Env) (hand : List TypeId) (t s : TypeId) → SubIsTransitive → Above env hand t → Contains (known_supers env t) s → Above env (t ∷ hand) s
unfolding Above
one-more env hand t s transitive above c h m = elim (or_cases (same_id h t) (list_any (same_id h) hand) m) [
  | inl e ↦ subst (λ u. Sub env u s) (sym (ap type_id (eqb-true h.0 t.0 e))) (direct t s c)
  | inr e ↦ transitive env h t s (above h e) (direct t s c)
]

fewer : (env : Env) (hand : List TypeId) (t : TypeId) (d : Declared) → SupertypesHaveNoCycle → Above env hand t → declared_at env t ≡ Some d
    → others (count env) (t ∷ hand) < others (count env) hand
fewer env hand t d acyclic above at = one-less (count env) t hand (slice_get_within (declared env) t.0 d at) (none-there env hand t acyclic above)

steady : {X : Type 0} (env : Env) (by : ℕ → TypeId → List X) (step : (TypeId → List X) → TypeId → List X) → Step env by step → SupertypesHaveNoCycle → SubIsTransitive
    → (d : ℕ) (hand : List TypeId) (t : TypeId) → Above env hand t → others (count env) hand ≤ d → by (suc d) t ≡ by d t
steady env by step look acyclic transitive zero hand t above l = at (declared_at env t) refl
  where
    at : (o : Option Declared) → declared_at env t ≡ o → by 1 t ≡ by 0 t
    at None e = look.next 0 t ∙ look.starts (by 0) t e
    at (Some d) e = let k = fewer env hand t d acyclic above e in absurd (omega (arith, k, l))
steady env by step look acyclic transitive (suc d) hand t above l =
    at (declared_at env t) refl (λ s k m. steady env by step look acyclic transitive d (t ∷ hand) s k m)
  where
    at : (o : Option Declared) → declared_at env t ≡ o
        → ((s : TypeId) → Above env (t ∷ hand) s → others (count env) (t ∷ hand) ≤ d → by (suc d) s ≡ by d s) → by (suc (suc d)) t ≡ by (suc d) t
    at None e one = look.next (suc d) t ∙ look.starts (by (suc d)) t e ∙ sym (look.starts (by d) t e) ∙ sym (look.next d t)
    at (Some u) e one =
        let k = fewer env hand t u acyclic above e in
        look.next (suc d) t ∙ look.asks (by (suc d)) (by d) t (λ s c. one s (one-more env hand t s transitive above c) (omega (arith, k, l))) ∙ sym (look.next d t)

-- What is found in as many steps as there are types is found from what the supertypes find.
pub settled : {X : Type 0} (env : Env) (by : ℕ → TypeId → List X) (step : (TypeId → List X) → TypeId → List X) → Step env by step → SupertypesHaveNoCycle → SubIsTransitive
    → (t : TypeId) → by (count env) t ≡ step (by (count env)) t
unfolding Above
settled env by step look acyclic transitive t =
    sym (steady env by step look acyclic transitive (count env) [] t (λ h m. absurd (true≢false (sym m))) (few (count env) [])) ∙ look.next (count env) t

-- the same lists of the same elements
pub flat-same : {X : Type 0} (f g : TypeId → List X) (ts : List TypeId) → ((s : TypeId) → Contains ts s → f s ≡ g s) → flat_map f ts ≡ flat_map g ts
flat-same f g [] h = refl
flat-same f g (t ∷ ts) h =
    ap (λ xs. xs ++ flat_map f ts) (h t (0, omega arith, refl))
    ∙ ap (λ xs. g t ++ xs) (flat-same f g ts (λ s c. h s (suc c.0, let l = c.1 in omega (arith, l), c.2)))
