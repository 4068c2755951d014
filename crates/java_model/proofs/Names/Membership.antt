-- Elements of lists, by recursion on the list.
use Rattle.std.proofs.Common.{◌≡◌, ◌<◌, ℕ, zero, suc, Bool, true, false, cond, ◌||◌, List, [], ◌∷◌, ◌++◌, length, slice_index_or, Contains, filter, flat_map, ◌⊎◌, inl, inr, refl, sym, ap, ◌∙◌, subst, arith, true≢false}
use Rattle.std.proofs.lemmas.Bool.{or_cases}
use Rattle.std.specs.List.{list_any}
use Rattle.java_model.specs.Names.Lists.{is_among, fresh}

abbrev pub Among : {X : Type 0} → List X → X → Type 0
Among [] x = ⊥
Among (y ∷ ys) x = (y ≡ x) ⊎ Among ys x

at_place : {X : Type 0} (xs : List X) (x : X) (k : ℕ) → k < length xs → slice_index_or xs k x ≡ x → Among xs x
at_place [] x k l e = absurd (omega (arith, l))
at_place (y ∷ ys) x zero l e = inl e
at_place (y ∷ ys) x (suc k) l e = inr (at_place ys x k (omega (arith, l)) e)

pub among : {X : Type 0} (xs : List X) (x : X) → Contains xs x → Among xs x
among xs x c = at_place xs x c.0 c.1 c.2

pub contained : {X : Type 0} (xs : List X) (x : X) → Among xs x → Contains xs x
contained [] x a = absurd a
contained (y ∷ ys) x (inl e) = (0, omega arith, e)
contained (y ∷ ys) x (inr a) = let c = contained ys x a in (suc c.0, omega (arith, c.1), c.2)

pub among-append : {X : Type 0} (xs ys : List X) (x : X) → Among (xs ++ ys) x → Among xs x ⊎ Among ys x
among-append [] ys x a = inr a
among-append (z ∷ xs) ys x (inl e) = inl (inl e)
among-append (z ∷ xs) ys x (inr a) = elim (among-append xs ys x a) [
  | inl b ↦ inl (inr b)
  | inr b ↦ inr b
]

pub among-left : {X : Type 0} (xs ys : List X) (x : X) → Among xs x → Among (xs ++ ys) x
among-left [] ys x a = absurd a
among-left (z ∷ xs) ys x (inl e) = inl e
among-left (z ∷ xs) ys x (inr a) = inr (among-left xs ys x a)

pub among-right : {X : Type 0} (xs ys : List X) (x : X) → Among ys x → Among (xs ++ ys) x
among-right [] ys x a = a
among-right (z ∷ xs) ys x a = inr (among-right xs ys x a)

-- filter
kept : {X : Type 0} (p : X → Bool) (y : X) (ys zs : List X) (x : X) (b : Bool) → p y ≡ b → Among (cond b (y ∷ zs) zs) x → (Among zs x → Among ys x × (p x ≡ true)) → Among (y ∷ ys) x × (p x ≡ true)
kept p y ys zs x true h (inl e) rest = (inl e, ap p (sym e) ∙ h)
kept p y ys zs x true h (inr a) rest = let r = rest a in (inr r.0, r.1)
kept p y ys zs x false h a rest = let r = rest a in (inr r.0, r.1)

pub among-filter : {X : Type 0} (p : X → Bool) (xs : List X) (x : X) → Among (filter p xs) x → Among xs x × (p x ≡ true)
among-filter p [] x a = absurd a
among-filter p (y ∷ ys) x a = kept p y ys (filter p ys) x (p y) refl a (among-filter p ys x)

passed : {X : Type 0} (y : X) (zs : List X) (x : X) (b : Bool) → b ≡ true → (y ≡ x) ⊎ Among zs x → Among (cond b (y ∷ zs) zs) x
passed y zs x true h a = a
passed y zs x false h a = absurd (true≢false (sym h))

skipped : {X : Type 0} (y : X) (zs : List X) (x : X) (b : Bool) → Among zs x → Among (cond b (y ∷ zs) zs) x
skipped y zs x true a = inr a
skipped y zs x false a = a

pub filtered : {X : Type 0} (p : X → Bool) (xs : List X) (x : X) → Among xs x → p x ≡ true → Among (filter p xs) x
filtered p [] x a h = absurd a
filtered p (y ∷ ys) x (inl e) h = passed y (filter p ys) x (p y) (ap p e ∙ h) (inl e)
filtered p (y ∷ ys) x (inr a) h = skipped y (filter p ys) x (p y) (filtered p ys x a h)

-- flat_map
pub among-flat_map : {X A : Type 0} (f : X → List A) (xs : List X) (a : A) → Among (flat_map f xs) a → (x : X) × Among xs x × Among (f x) a
among-flat_map f [] a m = absurd m
among-flat_map f (x ∷ xs) a m = elim (among-append (f x) (flat_map f xs) a m) [
  | inl b ↦ (x, inl refl, b)
  | inr b ↦ let r = among-flat_map f xs a b in (r.0, inr r.1, r.2)
]

pub flat_mapped : {X A : Type 0} (f : X → List A) (xs : List X) (x : X) (a : A) → Among xs x → Among (f x) a → Among (flat_map f xs) a
flat_mapped f [] x a m b = absurd m
flat_mapped f (y ∷ ys) x a (inl e) b = among-left (f y) (flat_map f ys) a (subst (λ z. Among (f z) a) (sym e) b)
flat_mapped f (y ∷ ys) x a (inr m) b = among-right (f y) (flat_map f ys) a (flat_mapped f ys x a m b)

-- is_among, where equal elements pass the test, and others don't
pub among-from_test : {X : Type 0} (same : X → X → Bool) (sound : (x y : X) → same x y ≡ true → x ≡ y) (x : X) (xs : List X) → is_among same x xs ≡ true → Among xs x
among-from_test same sound x [] h = absurd (true≢false (sym h))
among-from_test same sound x (y ∷ ys) h = elim (or_cases (same x y) (list_any (same x) ys) h) [
  | inl e ↦ inl (sym (sound x y e))
  | inr e ↦ inr (among-from_test same sound x ys e)
]

first_passes : (a b : Bool) → a ≡ true → (a || b) ≡ true
first_passes true b h = refl
first_passes false b h = absurd (true≢false (sym h))

second_passes : (a b : Bool) → b ≡ true → (a || b) ≡ true
second_passes true b h = refl
second_passes false b h = h

pub test-from_among : {X : Type 0} (same : X → X → Bool) (alike : (x : X) → same x x ≡ true) (x : X) (xs : List X) → Among xs x → is_among same x xs ≡ true
test-from_among same alike x [] a = absurd a
test-from_among same alike x (y ∷ ys) (inl e) = first_passes (same x y) (list_any (same x) ys) (subst (λ z. same x z ≡ true) (sym e) (alike x))
test-from_among same alike x (y ∷ ys) (inr a) = second_passes (same x y) (list_any (same x) ys) (test-from_among same alike x ys a)

-- fresh
skip_or_keep : {X : Type 0} (y : X) (zs ws : List X) (x : X) (b : Bool) → Among (cond b zs (y ∷ ws)) x → (Among zs x) ⊎ ((y ≡ x) ⊎ Among ws x)
skip_or_keep y zs ws x true a = inl a
skip_or_keep y zs ws x false a = inr a

pub among-fresh : {X : Type 0} (same : X → X → Bool) (seen xs : List X) (x : X) → Among (fresh same seen xs) x → Among xs x
among-fresh same seen [] x a = absurd a
among-fresh same seen (y ∷ ys) x a = elim (skip_or_keep y (fresh same seen ys) (fresh same (y ∷ seen) ys) x (is_among same y seen) a) [
  | inl b ↦ inr (among-fresh same seen ys x b)
  | inr c ↦ elim c [
    | inl e ↦ inl e
    | inr b ↦ inr (among-fresh same (y ∷ seen) ys x b)
  ]
]
