-- Elements of lists, by recursion on the list.
use Rattle.std.proofs.Common.{◌≡◌, Bool, true, false, cond, List, [], ◌∷◌, ◌++◌, flat_map, ◌⊎◌, inl, inr, refl, sym, ap, subst, true≢false}
use Rattle.std.specs.List.{list_any}
use Rattle.std.proofs.lemmas.Bool.{eq-eqb, eqb-true, or_cases, or_left, or_right}
use Rattle.java_tree.specs.declared.occurrence.TypeId.{TypeId}
use Rattle.java_model.specs.Names.Lists.{is_among, fresh}
use Rattle.java_model.specs.Names.Environments.{same_id, type_id}

abbrev pub Among : {X : Type 0} → List X → X → Type 0
Among [] x = ⊥
Among (y ∷ ys) x = (y ≡ x) ⊎ Among ys x

pub among-append : {X : Type 0} (xs ys : List X) (x : X) → Among (xs ++ ys) x → Among xs x ⊎ Among ys x
among-append [] ys x a = inr a
among-append (z ∷ xs) ys x (inl e) = inl (inl e)
among-append (z ∷ xs) ys x (inr a) = elim (among-append xs ys x a) [
  | inl b ↦ inl (inr b)
  | inr b ↦ inr b
]

pub among-left : {X : Type 0} (xs ys : List X) (x : X) → Among xs x → Among (xs ++ ys) x
among-left [] ys x a = absurd a
among-left (z ∷ xs) ys x (inl e) = inl e
among-left (z ∷ xs) ys x (inr a) = inr (among-left xs ys x a)

pub among-right : {X : Type 0} (xs ys : List X) (x : X) → Among ys x → Among (xs ++ ys) x
among-right [] ys x a = a
among-right (z ∷ xs) ys x a = inr (among-right xs ys x a)

-- flat_map
pub among-flat_map : {X A : Type 0} (f : X → List A) (xs : List X) (a : A) → Among (flat_map f xs) a → (x : X) × Among xs x × Among (f x) a
among-flat_map f [] a m = absurd m
among-flat_map f (x ∷ xs) a m = elim (among-append (f x) (flat_map f xs) a m) [
  | inl b ↦ (x, inl refl, b)
  | inr b ↦ let r = among-flat_map f xs a b in (r.0, inr r.1, r.2)
]

pub flat_mapped : {X A : Type 0} (f : X → List A) (xs : List X) (x : X) (a : A) → Among xs x → Among (f x) a → Among (flat_map f xs) a
flat_mapped f [] x a m b = absurd m
flat_mapped f (y ∷ ys) x a (inl e) b = among-left (f y) (flat_map f ys) a (subst (λ z. Among (f z) a) (sym e) b)
flat_mapped f (y ∷ ys) x a (inr m) b = among-right (f y) (flat_map f ys) a (flat_mapped f ys x a m b)

-- type ids
pub same_id-sound : (s t : TypeId) → same_id s t ≡ true → s ≡ t
same_id-sound s t e = ap type_id (eqb-true s.0 t.0 e)

pub same_id-alike : (t : TypeId) → same_id t t ≡ true
same_id-alike t = eq-eqb t.0 t.0 refl

pub among-from_test : (x : TypeId) (xs : List TypeId) → is_among same_id x xs ≡ true → Among xs x
among-from_test x [] h = absurd (true≢false (sym h))
among-from_test x (y ∷ ys) h = elim (or_cases (same_id x y) (list_any (same_id x) ys) h) [
  | inl e ↦ inl (sym (same_id-sound x y e))
  | inr e ↦ inr (among-from_test x ys e)
]

pub test-from_among : (x : TypeId) (xs : List TypeId) → Among xs x → is_among same_id x xs ≡ true
test-from_among x [] a = absurd a
test-from_among x (y ∷ ys) (inl e) = or_left (same_id x y) (list_any (same_id x) ys) (subst (λ z. same_id x z ≡ true) (sym e) (same_id-alike x))
test-from_among x (y ∷ ys) (inr a) = or_right (same_id x y) (list_any (same_id x) ys) (test-from_among x ys a)

-- fresh
skip_or_keep : {X : Type 0} (y : X) (zs ws : List X) (x : X) (b : Bool) → Among (cond b zs (y ∷ ws)) x → (Among zs x) ⊎ ((y ≡ x) ⊎ Among ws x)
skip_or_keep y zs ws x true a = inl a
skip_or_keep y zs ws x false a = inr a

pub among-fresh : {X : Type 0} (same : X → X → Bool) (seen xs : List X) (x : X) → Among (fresh same seen xs) x → Among xs x
among-fresh same seen [] x a = absurd a
among-fresh same seen (y ∷ ys) x a = elim (skip_or_keep y (fresh same seen ys) (fresh same (y ∷ seen) ys) x (is_among same y seen) a) [
  | inl b ↦ inr (among-fresh same seen ys x b)
  | inr c ↦ elim c [
    | inl e ↦ inl e
    | inr b ↦ inr (among-fresh same (y ∷ seen) ys x b)
  ]
]
