-- What is picked at rising numbers is what is picked in order.
use Rattle.std.proofs.Common.{◌≡◌, ◌≤◌, ◌<◌, ℕ, suc, Bool, true, false, List, [], ◌∷◌, ◌++◌, Option, Some, None, length, inl, inr, refl, sym, ap, ◌∙◌, subst, arith, true≢false}
use Rattle.std.specs.Prelude.{slice_get}
use Rattle.std.specs.List.{list_any, flat_map}
use Rattle.std.specs.Ordering.{nat_cmp, is_eq}
use Rattle.std.specs.declared.cmp.Ordering.{Ordering}
use Rattle.std.specs.declared.cmp.Ordering.TheVariants.{Less, Equal, Greater}
use Rattle.std.proofs.lemmas.Cmp.{ranked}
use Rattle.std.proofs.lemmas.Bool.{false_from_ne_true, or_from, cases_eq}
use Rattle.std.proofs.lemmas.List.{append-nil, append_assoc}
use Rattle.std.proofs.lemmas.Option.{slice_get_past}

-- each less than all later ones
abbrev pub Rises : ℕ → List ℕ → Type 0
Rises from [] = Unit {0}
Rises from (k ∷ ks) = (from ≤ k) × Rises (suc k) ks

abbrev pub is_in : ℕ → List ℕ → Bool
is_in n ks = list_any (λ k. is_eq (nat_cmp n k)) ks

same-number : (n k : ℕ) → is_eq (nat_cmp n k) ≡ true → n ≡ k
same-number n k e = by (nat_cmp n k) refl e
  where
    by : (r : Ordering) → r ≡ nat_cmp n k → is_eq r ≡ true → n ≡ k
    by Less at e = absurd (true≢false (sym e))
    by Equal at e = ranked n k Equal at
    by Greater at e = absurd (true≢false (sym e))

not-same : (n k : ℕ) → (n ≡ k → ⊥) → is_eq (nat_cmp n k) ≡ false
not-same n k h = false_from_ne_true (is_eq (nat_cmp n k)) (λ e. h (same-number n k e))

below : (n from : ℕ) (ks : List ℕ) → n < from → Rises from ks → is_in n ks ≡ false
below n from [] h r = refl
below n from (k ∷ ks) h r =
    let l = r.0 in
    or_from (is_eq (nat_cmp n k)) (is_in n ks) (not-same n k (λ e. absurd (omega (arith, h, l, e)))) (below n (suc k) ks (omega (arith, h, l)) r.1)

none-past : {X Y : Type 0} (pick : Option X → List Y) (all : List X) (from : ℕ) (ks : List ℕ) → pick None ≡ [] → length all ≤ from → Rises from ks → flat_map (λ k. pick (slice_get all k)) ks ≡ []
none-past pick all from [] none h r = refl
none-past pick all from (k ∷ ks) none h r =
    let l = r.0 in
    ap (λ ys. ys ++ flat_map (λ j. pick (slice_get all j)) ks) (ap pick (slice_get_past all k (omega (arith, h, l))) ∙ none)
    ∙ none-past pick all (suc k) ks none (omega (arith, h, l)) r.1

got : {X : Type 0} (xs : List X) (x : X) (ys : List X) → slice_get (xs ++ x ∷ ys) (length xs) ≡ Some x
got [] x ys = refl
got (z ∷ xs) x ys = got xs x ys

Outside : {X Y : Type 0} → (Option X → List Y) → List X → ℕ → List ℕ → Type 0
Outside pick all from ks = (n : ℕ) → from ≤ n → is_in n ks ≡ false → pick (slice_get all n) ≡ []

longer : {X : Type 0} (before : List X) (x : X) → length (before ++ x ∷ []) ≡ suc (length before)
longer [] x = refl
longer (z ∷ before) x = ap suc (longer before x)

its-place : {X : Type 0} (before rest all : List X) (x : X) → before ++ x ∷ rest ≡ all → slice_get all (length before) ≡ Some x
its-place before rest all x e = ap (λ xs. slice_get xs (length before)) (sym e) ∙ got before x rest

picked-from : {X Y : Type 0} (pick : Option X → List Y) (all before rest : List X) (ks : List ℕ) → pick None ≡ [] → before ++ rest ≡ all → Rises (length before) ks
    → Outside pick all (length before) ks → flat_map (λ k. pick (slice_get all k)) ks ≡ flat_map (λ x. pick (Some x)) rest
unfolding Outside
picked-from pick all before [] ks none e r out = none-past pick all (length before) ks none (let l = ap length (sym (append-nil before) ∙ e) in omega (arith, l)) r
picked-from pick all before (x ∷ rest) [] none e r out =
    sym (ap (λ ys. ys ++ flat_map (λ y. pick (Some y)) rest) (sym (ap pick (its-place before rest all x e)) ∙ out (length before) (omega arith) refl)
    ∙ sym (picked-from pick all (before ++ x ∷ []) rest [] none (append_assoc before (x ∷ []) rest ∙ e) tt (λ n l k. out n (let m = longer before x in omega (arith, l, m)) k)))
picked-from pick all before (x ∷ rest) (k ∷ ks) none e r out = elim (cases_eq k (length before)) as (λ _. flat_map (λ j. pick (slice_get all j)) (k ∷ ks) ≡ flat_map (λ y. pick (Some y)) (x ∷ rest)) [
  | inl at ↦
      ap (λ ys. ys ++ flat_map (λ j. pick (slice_get all j)) ks) (ap (λ j. pick (slice_get all j)) at ∙ ap pick (its-place before rest all x e))
      ∙ ap (λ ys. pick (Some x) ++ ys)
      (picked-from pick all (before ++ x ∷ []) rest ks none (append_assoc before (x ∷ []) rest ∙ e) (subst (λ n. Rises n ks) (ap suc at ∙ sym (longer before x)) r.1)
      (λ n l out_of. out n (let m = longer before x in omega (arith, l, m))
      (or_from (is_eq (nat_cmp n k)) (is_in n ks) (not-same n k (λ q. let m = longer before x in absurd (omega (arith, l, m, q, at)))) out_of)))
  | inr off ↦
      let least = r.0 in
      let above : suc (length before) ≤ k = omega (arith, least, off) in
      sym (ap (λ ys. ys ++ flat_map (λ y. pick (Some y)) rest)
      (sym (ap pick (its-place before rest all x e))
      ∙ out (length before) (omega arith) (or_from (is_eq (nat_cmp (length before) k)) (is_in (length before) ks) (not-same (length before) k (λ q. off (sym q))) (below (length before) (suc k) ks (omega (arith, above)) r.1)))
      ∙ sym (picked-from pick all (before ++ x ∷ []) rest (k ∷ ks) none (append_assoc before (x ∷ []) rest ∙ e) (let m = longer before x in (omega (arith, above, m), r.1))
      (λ n l out_of. out n (let m = longer before x in omega (arith, l, m)) out_of)))
]

pub picked : {X Y : Type 0} (pick : Option X → List Y) (all : List X) (ks : List ℕ) → pick None ≡ [] → Rises 0 ks
    → ((n : ℕ) → is_in n ks ≡ false → pick (slice_get all n) ≡ []) → flat_map (λ k. pick (slice_get all k)) ks ≡ flat_map (λ x. pick (Some x)) all
unfolding Outside
picked pick all ks none r outside = picked-from pick all [] all ks none refl r (λ n l. outside n)
