-- Elements whose numbers rise stand in one order: a list of them in which no number falls is theirs.
use Rattle.std.proofs.Common.{◌≡◌, ◌<◌, ◌≤◌, ◌+◌, ℕ, zero, suc, Bool, true, ◌&&◌, cond, List, [], ◌∷◌, length, get_or, inl, inr, refl, sym, ap, ◌∙◌, subst, arith}
use Rattle.std.specs.List.{AllByRecursion, sum_by}
use Rattle.std.specs.List.Sorted.{IsPermutation, IsNonDecreasingBy, SwapsInRange}
use Rattle.std.proofs.Math.Dec.{ltb}
use Rattle.std.proofs.lemmas.Bool.{cases_order, ltb-true, lt-ltb, le-ltb}
use Rattle.std.proofs.lemmas.List.Sorted.{Contains-permutation, IsPermutation-sym, sum_by-IsPermutation, IsNonDecreasingBy-from_all_adjacent}
use Rattle.std.proofs.lemmas.List.Sums.{sum_by-cons}
use Rattle.java_model.proofs.DeclaredLaws.{both}
use Rattle.java_laws.proofs.Lists.{Among, among, contained, each-of}

-- a list of exchanges, all in range
abbrev pub are_below : ℕ → List (ℕ × ℕ) → Bool
are_below n [] = true
are_below n (p ∷ ps) = ltb p.0 n && (ltb p.1 n && are_below n ps)

pub swaps-below : (n : ℕ) (ps : List (ℕ × ℕ)) → are_below n ps ≡ true → SwapsInRange n ps
swaps-below n [] e = tt
swaps-below n (p ∷ ps) e =
    let h = both (ltb p.0 n) (ltb p.1 n && are_below n ps) e in
    let k = both (ltb p.1 n) (are_below n ps) h.1 in
    (ltb-true p.0 n h.0, ltb-true p.1 n k.0, swaps-below n ps k.1)

-- each number is below the next one
abbrev pub rises : {X : Type 0} → (X → ℕ) → List X → Bool
rises n [] = true
rises n (x ∷ []) = true
rises n (x ∷ y ∷ more) = ltb (n x) (n y) && rises n (y ∷ more)

module _ {X : Type 0} (n : X → ℕ) where
  abbrev Above : ℕ → List X → Type 0
  Above m = AllByRecursion (λ z. m < n z)

  abbrev Ascending : List X → Type 0
  Ascending [] = Unit {0}
  Ascending (x ∷ xs) = Above (n x) xs × Ascending xs

  abbrev Ordered : List X → Type 0
  Ordered [] = Unit {0}
  Ordered (x ∷ xs) = AllByRecursion (λ z. n x ≤ n z) xs × Ordered xs

  above-less : (l m : ℕ) (xs : List X) → l < m → Above m xs → Above l xs
  above-less l m [] h all = tt
  above-less l m (x ∷ xs) h all = (omega (arith, h, all.0), above-less l m xs h all.1)

  above-from : (l m : ℕ) (xs : List X) → l < m → AllByRecursion (λ z. m ≤ n z) xs → Above l xs
  above-from l m [] h all = tt
  above-from l m (x ∷ xs) h all = (omega (arith, h, all.0), above-from l m xs h all.1)

  ascends : (xs : List X) → rises n xs ≡ true → Ascending xs
  ascends [] e = tt
  ascends (x ∷ []) e = (tt, tt)
  ascends (x ∷ y ∷ more) e =
      let h = both (ltb (n x) (n y)) (rises n (y ∷ more)) e in
      let l = ltb-true (n x) (n y) h.0 in
      let rest = ascends (y ∷ more) h.1 in
      ((l, above-less (n x) (n y) more l rest.0), rest)

  -- what rises doesn't fall
  next : (xs : List X) → rises n xs ≡ true → (k : ℕ) (d : X) → suc k < length xs → n (get_or xs k d) ≤ n (get_or xs (suc k) d)
  next [] e k d h = absurd (omega (arith, h))
  next (x ∷ []) e k d h = absurd (omega (arith, h))
  next (x ∷ y ∷ more) e zero d h = let l = ltb-true (n x) (n y) (both (ltb (n x) (n y)) (rises n (y ∷ more)) e).0 in omega (arith, l)
  next (x ∷ y ∷ more) e (suc k) d h = next (y ∷ more) (both (ltb (n x) (n y)) (rises n (y ∷ more)) e).1 k d (omega (arith, h))

  pub no-falls : (xs : List X) → rises n xs ≡ true → IsNonDecreasingBy n xs
  no-falls xs e = IsNonDecreasingBy-from_all_adjacent n xs (λ k d h.
      let more : suc k ≡ k + 1 = omega arith in
      subst (λ j. n (get_or xs k d) ≤ n (get_or xs j d)) more (next xs e k d (omega (arith, h))))

  rest-from : (m : ℕ) (xs : List X) → ((j : ℕ) (d : X) → j < length xs → m ≤ n (get_or xs j d)) → AllByRecursion (λ z. m ≤ n z) xs
  rest-from m [] h = tt
  rest-from m (x ∷ xs) h = (h 0 x (omega arith), rest-from m xs (λ j d l. h (suc j) d (omega (arith, l))))

  ordered : (xs : List X) → IsNonDecreasingBy n xs → Ordered xs
  ordered [] h = tt
  ordered (x ∷ xs) h = (
    rest-from (n x) xs (λ j d l. h 0 (suc j) d (omega arith) (omega (arith, l))),
    ordered xs (λ i j d l k. h (suc i) (suc j) d (omega (arith, l)) (omega (arith, k))),
  )

  -- elements of one number are one
  same : (xs : List X) → Ascending xs → (a b : X) → Among xs a → Among xs b → n a ≡ n b → a ≡ b
  same [] up a b i j e = absurd i
  same (x ∷ xs) up a b (inl p) (inl q) e = sym p ∙ q
  same (x ∷ xs) up a b (inl p) (inr j) e =
      let l = each-of (λ z. n x < n z) xs b up.0 j in let f = ap n p in absurd (omega (arith, l, f, e))
  same (x ∷ xs) up a b (inr i) (inl q) e =
      let l = each-of (λ z. n x < n z) xs a up.0 i in let f = ap n q in absurd (omega (arith, l, f, e))
  same (x ∷ xs) up a b (inr i) (inr j) e = same xs up.1 a b i j e

  -- how many have no number above this one
  abbrev low : ℕ → X → ℕ
  low m z = cond (ltb m (n z)) 0 1

  none-low : (m : ℕ) (xs : List X) → Above m xs → sum_by (low m) xs ≡ 0
  none-low m [] all = refl
  none-low m (x ∷ xs) all = sum_by-cons (low m) x xs ∙ rw (lt-ltb m (n x) all.0) (let e = none-low m xs all.1 in omega (arith, e))

  some-low : (m : ℕ) (x : X) (xs : List X) → n x ≤ m → 0 < sum_by (low m) (x ∷ xs)
  some-low m x xs h = rw (sum_by-cons (low m) x xs, le-ltb m (n x) h) (omega arith)

  abbrev SameSums : List X → List X → Type 0
  SameSums xs ys = (f : X → ℕ) → sum_by f ys ≡ sum_by f xs

  not-above : (x : X) (xs ys : List X) → SameSums (x ∷ xs) ys → Above (n x) ys → ⊥
  not-above x xs ys sums all =
      let e = sums (low (n x)) in
      let f = none-low (n x) ys all in
      let g = some-low (n x) x xs (omega arith) in
      absurd (omega (arith, e, f, g))

  rest-sums : (x : X) (xs ys : List X) → SameSums (x ∷ xs) (x ∷ ys) → SameSums xs ys
  rest-sums x xs ys sums f =
      let e = sums f in let g = sum_by-cons f x xs in let h = sum_by-cons f x ys in omega (arith, e, g, h)

  one-list : (all : List X) → Ascending all → (xs ys : List X) → Ascending xs → Ordered ys → ((z : X) → Among xs z → Among all z)
      → ((z : X) → Among ys z → Among all z) → SameSums xs ys → xs ≡ ys
  one-list all up [] [] low high in-xs in-ys sums = refl
  one-list all up [] (y ∷ ys) low high in-xs in-ys sums = absurd (not-above y ys [] (λ f. sym (sums f)) tt)
  one-list all up (x ∷ xs) [] low high in-xs in-ys sums = absurd (not-above x xs [] sums tt)
  one-list all up (x ∷ xs) (y ∷ ys) low high in-xs in-ys sums = elim (cases_order (n x) (n y)) [
    | inl e ↦
        let p : x ≡ y = same all up x y (in-xs x (inl refl)) (in-ys y (inl refl)) e in
        let s : SameSums (x ∷ xs) (x ∷ ys) = subst (λ z. SameSums (x ∷ xs) (z ∷ ys)) (sym p) sums in
        let rest : xs ≡ ys = one-list all up xs ys low.1 high.1 (λ z i. in-xs z (inr i)) (λ z i. in-ys z (inr i)) (rest-sums x xs ys s) in
        cc (p, rest)
    | inr l ↦ elim l [
      | inl h ↦ absurd (not-above x xs (y ∷ ys) sums (h, above-from (n x) (n y) ys h high.0))
      | inr h ↦ absurd (not-above y ys (x ∷ xs) (λ f. sym (sums f)) (h, above-less (n y) (n x) xs h low.0))
    ]
  ]

  pub one-order : (xs ys : List X) → rises n xs ≡ true → IsNonDecreasingBy n ys → IsPermutation xs ys → xs ≡ ys
  one-order xs ys up high moved =
      one-list xs (ascends xs up) xs ys (ascends xs up) (ordered ys high) (λ z i. i)
      (λ z i. among xs z (Contains-permutation ys xs z (IsPermutation-sym xs ys moved) (contained ys z i)))
      (λ f. sum_by-IsPermutation f xs ys moved)
