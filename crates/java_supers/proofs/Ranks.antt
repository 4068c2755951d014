-- What types with ranks lead to.
use Rattle.std.proofs.Common.{◌≡◌, ◌<◌, ◌≤◌, ℕ, zero, suc, ◌||◌, Bool, true, false, cond, List, [], ◌∷◌, ◌++◌, Option, Some, None, is_some, length, map, option_map, flat_map, ◌⊎◌, inl, inr, refl, sym, ap, ◌∙◌, subst, arith, true≢false}
use Rattle.std.specs.Prelude.{slice_get, slice_set, unwrap_or, nat_lt}
use Rattle.std.specs.List.{list_all, list_any}
use Rattle.std.specs.Option.{option_map_or}
use Rattle.std.proofs.lemmas.Bool.{and_from, and_parts, cases_eq, false_from_ne_true, ltb-true, or_cases, or_left, or_right}
use Rattle.std.proofs.lemmas.List.{length-map, length-set}
use Rattle.std.proofs.lemmas.Option.{none-some, same_Some, slice_get-map, slice_get_cases, slice_get_past}
use Rattle.java_tree.specs.declared.occurrence.TypeId.{TypeId}
use Rattle.java_model.specs.Names.Lists.{is_among, fresh, reached}
use Rattle.java_model.specs.Names.Environments.{same_id, type_id}
use Rattle.java_supers.specs.Ranking.{is_below, is_ranked, AreRanks}
use Rattle.java_supers.specs.Reaching.{next_in, reached_in}
use Rattle.java_supers.proofs.Elements.{Among, among-append, among-left, among-right, among-flat_map, flat_mapped, among-fresh, among-from_test, same_id-sound, same_id-alike, test-from_among}

-- ---- ranks as numbers

pub rank_of : List (Option ℕ) → TypeId → ℕ
rank_of ranks t = option_map_or (λ own. option_map_or suc own 0) (slice_get ranks t.0) 0

below-is : (ranks : List (Option ℕ)) (r : ℕ) (t : TypeId) → is_below ranks r t ≡ true → (is_ranked ranks t ≡ true) × (rank_of ranks t < suc r)
unfolding rank_of
below-is ranks r t h = by (slice_get ranks t.0) h
  where
    by : (o : Option (Option ℕ)) → option_map_or (λ own. option_map_or (λ k. nat_lt k r) own false) o true ≡ true
        → (option_map_or is_some o true ≡ true) × (option_map_or (λ own. option_map_or suc own 0) o 0 < suc r)
    by None e = (refl, omega arith)
    by (Some None) e = absurd (true≢false (sym e))
    by (Some (Some k)) e = (refl, let l = ltb-true k r e in omega (arith, l))

all-at : (p : TypeId → Bool) (xs : List TypeId) (x : TypeId) → list_all p xs ≡ true → Among xs x → p x ≡ true
all-at p [] x h a = absurd a
all-at p (y ∷ ys) x h (inl e) = ap p (sym e) ∙ (and_parts (p y) (list_all p ys) h).0
all-at p (y ∷ ys) x h (inr a) = all-at p ys x (and_parts (p y) (list_all p ys) h).1 a

-- a type with a rank leads to types with lower ones
module _ (nexts : List (List TypeId)) (ranks : List (Option ℕ)) (are : AreRanks nexts ranks) where
  past-none : (x : TypeId) → slice_get ranks x.0 ≡ None → next_in nexts x ≡ []
  past-none x e = elim (slice_get_cases ranks x.0).1 [
    | inl i ↦ absurd (none-some i.0 (sym e ∙ i.2))
    | inr o ↦ let m = are.many_are in let l = o.0 in ap (λ q. unwrap_or q []) (slice_get_past nexts x.0 (omega (arith, m, l)))
  ]

  pub falls : (x y : TypeId) → is_ranked ranks x ≡ true → Among (next_in nexts x) y → (is_ranked ranks y ≡ true) × (rank_of ranks y < rank_of ranks x)
  unfolding rank_of
  falls x y h a = by (slice_get ranks x.0) refl h
    where
      by : (o : Option (Option ℕ)) → slice_get ranks x.0 ≡ o → option_map_or is_some o true ≡ true → (is_ranked ranks y ≡ true) × (rank_of ranks y < option_map_or (λ own. option_map_or suc own 0) o 0)
      by None e k = absurd (subst (λ ts. Among ts y) (past-none x e) a)
      by (Some None) e k = absurd (true≢false (sym k))
      by (Some (Some r)) e k = below-is ranks r y (all-at (is_below ranks r) (next_in nexts x) y (are.above x r e) a)

  pub at_most : (x : TypeId) → rank_of ranks x ≤ length nexts
  unfolding rank_of
  at_most x = by (slice_get ranks x.0) refl
    where
      by : (o : Option (Option ℕ)) → slice_get ranks x.0 ≡ o → option_map_or (λ own. option_map_or suc own 0) o 0 ≤ length nexts
      by None e = omega arith
      by (Some None) e = omega arith
      by (Some (Some r)) e = let l = are.few x r e in omega (arith, l)

-- ---- one type more has a rank

got-other : {X : Type 0} (xs : List X) (n k : ℕ) (x : X) → (k ≡ n → ⊥) → slice_get (slice_set xs n x) k ≡ slice_get xs k
got-other [] n k x h = refl
got-other (y ∷ xs) zero zero x h = absurd (h refl)
got-other (y ∷ xs) zero (suc k) x h = refl
got-other (y ∷ xs) (suc n) zero x h = refl
got-other (y ∷ xs) (suc n) (suc k) x h = got-other xs n k x (λ e. h (ap suc e))

got-set : {X : Type 0} (xs : List X) (n : ℕ) (x y : X) → slice_get xs n ≡ Some y → slice_get (slice_set xs n x) n ≡ Some x
got-set [] n x y e = absurd (none-some y e)
got-set (z ∷ xs) zero x y e = refl
got-set (z ∷ xs) (suc n) x y e = got-set xs n x y e

all-too : (p q : TypeId → Bool) (xs : List TypeId) → ((x : TypeId) → p x ≡ true → q x ≡ true) → list_all p xs ≡ true → list_all q xs ≡ true
all-too p q [] h a = refl
all-too p q (x ∷ xs) h a = let b = and_parts (p x) (list_all p xs) a in and_from (q x) (list_all q xs) (h x b.0) (all-too p q xs h b.1)

pub one-ranked : (nexts : List (List TypeId)) (ranks after : List (Option ℕ)) (t : TypeId) (rank : ℕ) → AreRanks nexts ranks → rank < length nexts → slice_get ranks t.0 ≡ Some None
    → list_all (is_below ranks rank) (next_in nexts t) ≡ true → after ≡ slice_set ranks t.0 (Some rank) → AreRanks nexts after
one-ranked nexts ranks after t rank are l none below is = record {
  many_are = ap length is ∙ length-set ranks t.0 (Some rank) ∙ are.many_are;
  few = λ u r e. elim (cases_eq u.0 t.0) [
    | inl i ↦ let same : r ≡ rank = its-rank u r i e in omega (arith, same, l)
    | inr d ↦ are.few u r (other u d ∙ e)
  ];
  above = λ u r e. elim (cases_eq u.0 t.0) [
    | inl i ↦ still r (next_in nexts u) (ap (λ k. list_all (is_below ranks k) (next_in nexts u)) (its-rank u r i e) ∙ ap (λ n. list_all (is_below ranks rank) (next_in nexts (type_id n))) i ∙ below)
    | inr d ↦ still r (next_in nexts u) (are.above u r (other u d ∙ e))
  ];
}
  where
    other : (u : TypeId) → (u.0 ≡ t.0 → ⊥) → slice_get ranks u.0 ≡ slice_get after u.0
    other u d = sym (ap (λ rs. slice_get rs u.0) is ∙ got-other ranks t.0 u.0 (Some rank) d)

    its-rank : (u : TypeId) (r : ℕ) → u.0 ≡ t.0 → slice_get after u.0 ≡ Some (Some r) → r ≡ rank
    its-rank u r i e = same_Some r rank (same_Some (Some r) (Some rank) (sym e ∙ ap (λ rs. slice_get rs u.0) is ∙ ap (slice_get (slice_set ranks t.0 (Some rank))) i ∙ got-set ranks t.0 (Some rank) None none))

    stays : (r : ℕ) (v : TypeId) → is_below ranks r v ≡ true → is_below after r v ≡ true
    stays r v h = elim (cases_eq v.0 t.0) [
      | inl i ↦ absurd (true≢false (sym h ∙ ap (λ o. option_map_or (λ own. option_map_or (λ k. nat_lt k r) own false) o true) (ap (slice_get ranks) i ∙ none)))
      | inr d ↦ ap (λ o. option_map_or (λ own. option_map_or (λ k. nat_lt k r) own false) o true) (sym (other v d)) ∙ h
    ]

    still : (r : ℕ) (us : List TypeId) → list_all (is_below ranks r) us ≡ true → list_all (is_below after r) us ≡ true
    still r us = all-too (is_below ranks r) (is_below after r) us (stays r)

pub none-ranked : (nexts : List (List TypeId)) (ranks : List (Option ℕ)) → ranks ≡ map (λ _. None) nexts → AreRanks nexts ranks
none-ranked nexts ranks is = record {
  many_are = ap length is ∙ length-map nexts (λ _. None);
  few = λ t r e. absurd (by (slice_get nexts t.0) r (sym (ap (λ rs. slice_get rs t.0) is ∙ slice_get-map (λ _. None) nexts t.0) ∙ e));
  above = λ t r e. absurd (by (slice_get nexts t.0) r (sym (ap (λ rs. slice_get rs t.0) is ∙ slice_get-map (λ _. None) nexts t.0) ∙ e));
}
  where
    by : (o : Option (List TypeId)) (r : ℕ) → option_map (λ _. None) o ≡ Some (Some r) → ⊥
    by None r e = none-some (Some r) e
    by (Some x) r e = none-some r (same_Some None (Some r) e)

-- ---- what a front leads to has lower ranks

module _ (next : TypeId → List TypeId) (good : TypeId → Bool) (rank : TypeId → ℕ) (lower : (x y : TypeId) → good x ≡ true → Among (next x) y → (good y ≡ true) × (rank y < rank x)) (most : ℕ) where
  abbrev AreAtMost : List TypeId → Type 0
  AreAtMost front = (x : TypeId) → Among front x → (good x ≡ true) × (rank x ≤ most)

  abbrev AreUnder : List TypeId → Type 0
  AreUnder seen = (x : TypeId) → Among seen x → rank x < most

  next-under : (front seen : List TypeId) (y : TypeId) → AreAtMost front → Among (fresh same_id seen (flat_map next front)) y → (good y ≡ true) × (rank y < most)
  next-under front seen y h a =
      let from = among-flat_map next front y (among-fresh same_id seen (flat_map next front) y a) in
      let its = h from.0 from.1 in
      let l = lower from.0 y its.0 from.2 in
      (l.0, let m = its.1 in let n = l.1 in omega (arith, m, n))

  pub leads-under : (d : ℕ) (front seen : List TypeId) → AreAtMost front → AreUnder seen → AreUnder (reached d same_id next front seen)
  leads-under zero front seen h s = s
  leads-under (suc d) [] seen h s = s
  leads-under (suc d) (f ∷ fs) seen h s =
      let new = fresh same_id seen (flat_map next (f ∷ fs)) in
      leads-under d new (seen ++ new) (λ y a. let r = next-under (f ∷ fs) seen y h a in (r.0, let l = r.1 in omega (arith, l)))
      (λ y a. elim (among-append seen new y a) [
        | inl b ↦ s y b
        | inr b ↦ (next-under (f ∷ fs) seen y h b).1
      ])

pub off-cycle : (nexts : List (List TypeId)) (ranks : List (Option ℕ)) (t : TypeId) → AreRanks nexts ranks → is_ranked ranks t ≡ true → is_among same_id t (reached_in nexts t) ≡ false
off-cycle nexts ranks t are h = false_from_ne_true (is_among same_id t (reached_in nexts t)) (λ e.
    let l = leads-under (next_in nexts) (is_ranked ranks) (rank_of ranks) (falls nexts ranks are) (rank_of ranks t) (suc (length nexts)) (t ∷ []) []
    (λ x a. elim a [
      | inl i ↦ (ap (is_ranked ranks) (sym i) ∙ h, let same : rank_of ranks t ≡ rank_of ranks x = ap (rank_of ranks) i in omega (arith, same))
      | inr b ↦ absurd b
    ]) (λ x a. absurd a) t (among-from_test t (reached_in nexts t) e) in
    absurd (omega (arith, l)))

-- ---- what a type leads to, step by step, where all types have ranks

pub data Leads (next : TypeId → List TypeId) : TypeId → TypeId → Type 0 where
  direct : (s t : TypeId) → Among (next s) t → Leads next s t
  further : (s u t : TypeId) → Among (next s) u → Leads next u t → Leads next s t

one-more : (next : TypeId → List TypeId) (s u t : TypeId) → Leads next s u → Among (next u) t → Leads next s t
one-more next s u t (direct _ _ a) b = further s u t a (direct u t b)
one-more next s u t (further _ v _ a l) b = further s v t a (one-more next v u t l b)

seen_or_fresh : (seen xs : List TypeId) (x : TypeId) → Among xs x → Among seen x ⊎ Among (fresh same_id seen xs) x
seen_or_fresh seen [] x a = absurd a
seen_or_fresh seen (y ∷ ys) x a = by (is_among same_id y seen) refl a (λ ts b. seen_or_fresh ts ys x b)
  where
    by : (b : Bool) → is_among same_id y seen ≡ b → (y ≡ x) ⊎ Among ys x → ((ts : List TypeId) → Among ys x → Among ts x ⊎ Among (fresh same_id ts ys) x)
        → Among seen x ⊎ Among (cond b (fresh same_id seen ys) (y ∷ fresh same_id (y ∷ seen) ys)) x
    by true e (inl i) more = inl (subst (Among seen) i (among-from_test y seen e))
    by true e (inr b) more = more seen b
    by false e (inl i) more = inr (inl i)
    by false e (inr b) more = elim (more (y ∷ seen) b) [
      | inl c ↦ elim c [
        | inl i ↦ inr (inl i)
        | inr m ↦ inl m
      ]
      | inr m ↦ inr (inr m)
    ]

module _ (next : TypeId → List TypeId) (start : TypeId) where
  abbrev IsFrom : List TypeId → TypeId → Type 0
  IsFrom seen x = (x ≡ start) ⊎ Among seen x

  -- what is reached is led to
  led : (d : ℕ) (front seen : List TypeId) → ((x : TypeId) → Among front x → (x ≡ start) ⊎ Leads next start x) → ((x : TypeId) → Among seen x → Leads next start x)
      → (x : TypeId) → Among (reached d same_id next front seen) x → Leads next start x
  led zero front seen f s = s
  led (suc d) [] seen f s = s
  led (suc d) (y ∷ ys) seen f s =
      let new = fresh same_id seen (flat_map next (y ∷ ys)) in
      let all : (x : TypeId) → Among new x → Leads next start x = λ x a.
      let from = among-flat_map next (y ∷ ys) x (among-fresh same_id seen (flat_map next (y ∷ ys)) x a) in
      elim (f from.0 from.1) [
        | inl i ↦ direct start x (subst (λ z. Among (next z) x) i from.2)
        | inr l ↦ one-more next start from.0 x l from.2
      ] in
      led d new (seen ++ new) (λ x a. inr (all x a)) (λ x a. elim (among-append seen new x a) [
        | inl b ↦ s x b
        | inr b ↦ all x b
      ])

  -- all that follow what was seen were seen, but for those of the front
  abbrev HasNext : List TypeId → TypeId → Type 0
  HasNext seen x = (y : TypeId) → Among (next x) y → Among seen y

  abbrev IsClosedBut : List TypeId → List TypeId → Type 0
  IsClosedBut front seen = (x : TypeId) → IsFrom seen x → Among front x ⊎ HasNext seen x

  goes-further : (front seen new : List TypeId) → new ≡ fresh same_id seen (flat_map next front) → IsClosedBut front seen → (x : TypeId) → IsFrom seen x → HasNext (seen ++ new) x
  goes-further front seen new e h x f y m = elim (h x f) [
    | inl a ↦ elim (seen_or_fresh seen (flat_map next front) y (flat_mapped next front x y a m)) [
      | inl s ↦ among-left seen new y s
      | inr s ↦ among-right seen new y (subst (λ ts. Among ts y) (sym e) s)
    ]
    | inr has ↦ among-left seen new y (has y m)
  ]

  closed-but : (front seen new : List TypeId) → new ≡ fresh same_id seen (flat_map next front) → IsClosedBut front seen → IsClosedBut new (seen ++ new)
  closed-but front seen new e h x (inl i) = inr (goes-further front seen new e h x (inl i))
  closed-but front seen new e h x (inr a) = elim (among-append seen new x a) [
    | inl s ↦ inr (goes-further front seen new e h x (inr s))
    | inr n ↦ inl n
  ]

  module _ (rank : TypeId → ℕ) (lower : (x y : TypeId) → Among (next x) y → rank y < rank x) where
    closes : (d : ℕ) (front seen : List TypeId) → ((x : TypeId) → Among front x → rank x < d) → IsClosedBut front seen → (x : TypeId) → IsFrom (reached d same_id next front seen) x → HasNext (reached d same_id next front seen) x
    closes zero front seen l h x f = elim (h x f) [
      | inl a ↦ absurd (let k = l x a in omega (arith, k))
      | inr has ↦ has
    ]
    closes (suc d) [] seen l h x f = elim (h x f) [
      | inl a ↦ absurd a
      | inr has ↦ has
    ]
    closes (suc d) (g ∷ gs) seen l h x f =
        let new = fresh same_id seen (flat_map next (g ∷ gs)) in
        closes d new (seen ++ new)
        (λ y a. let from = among-flat_map next (g ∷ gs) y (among-fresh same_id seen (flat_map next (g ∷ gs)) y a) in
        let k = l from.0 from.1 in let m = lower from.0 y from.2 in omega (arith, k, m))
        (closed-but (g ∷ gs) seen new refl h) x f

    all-led : (seen : List TypeId) → ((x : TypeId) → IsFrom seen x → HasNext seen x) → (x t : TypeId) → Leads next x t → IsFrom seen x → Among seen t
    all-led seen closed x t (direct _ _ a) f = closed x f t a
    all-led seen closed x t (further _ u _ a l) f = all-led seen closed u t l (inr (closed x f u a))

some-of : (p : TypeId → Bool) (xs : List TypeId) → list_any p xs ≡ true → (x : TypeId) × Among xs x × (p x ≡ true)
some-of p [] h = absurd (true≢false (sym h))
some-of p (x ∷ xs) h = elim (or_cases (p x) (list_any p xs) h) [
  | inl e ↦ (x, inl refl, e)
  | inr e ↦ let r = some-of p xs e in (r.0, inr r.1, r.2)
]

of-some : (p : TypeId → Bool) (xs : List TypeId) (x : TypeId) → Among xs x → p x ≡ true → list_any p xs ≡ true
of-some p [] x a h = absurd a
of-some p (y ∷ ys) x (inl e) h = or_left (p y) (list_any p ys) (ap p e ∙ h)
of-some p (y ∷ ys) x (inr a) h = or_right (p y) (list_any p ys) (of-some p ys x a h)

alike : (a b : Bool) → (a ≡ true → b ≡ true) → (b ≡ true → a ≡ true) → a ≡ b
alike true b f g = sym (f refl)
alike false true f g = g refl
alike false false f g = refl

module _ (next : TypeId → List TypeId) (rank : TypeId → ℕ) (lower : (x y : TypeId) → Among (next x) y → rank y < rank x) (most : ℕ) (few : (x : TypeId) → rank x ≤ most) where
  abbrev all_of : TypeId → List TypeId
  all_of s = reached (suc most) same_id next (s ∷ []) []

  -- what is led to is reached
  is-reached : (s t : TypeId) → Leads next s t → Among (all_of s) t
  is-reached s t l =
      all-led next s rank lower (all_of s) (closes next s rank lower (suc most) (s ∷ []) []
      (λ x a. elim a [
        | inl i ↦ let k = few x in omega (arith, k)
        | inr b ↦ absurd b
      ])
      (λ x f. elim f [
        | inl i ↦ inl (inl (sym i))
        | inr b ↦ absurd b
      ])) s t l (inl refl)

  is-led : (s t : TypeId) → Among (all_of s) t → Leads next s t
  is-led s t = led next s (suc most) (s ∷ []) [] (λ x a. elim a [
    | inl i ↦ inl (sym i)
    | inr b ↦ absurd b
  ]) (λ x a. absurd a) t

  abbrev is_ahead : TypeId → TypeId → Bool
  is_ahead t u = same_id t u || is_among same_id t (all_of u)

  pub step-by-step : (s t : TypeId) → is_among same_id t (all_of s) ≡ list_any (is_ahead t) (next s)
  step-by-step s t = alike (is_among same_id t (all_of s)) (list_any (is_ahead t) (next s)) forth back
    where
      first-step : Leads next s t → list_any (is_ahead t) (next s) ≡ true
      first-step (direct _ _ a) = of-some (is_ahead t) (next s) t a (or_left (same_id t t) (is_among same_id t (all_of t)) (same_id-alike t))
      first-step (further _ u _ a l) =
          of-some (is_ahead t) (next s) u a (or_right (same_id t u) (is_among same_id t (all_of u)) (test-from_among t (all_of u) (is-reached u t l)))

      forth : is_among same_id t (all_of s) ≡ true → list_any (is_ahead t) (next s) ≡ true
      forth h = first-step (is-led s t (among-from_test t (all_of s) h))

      back : list_any (is_ahead t) (next s) ≡ true → is_among same_id t (all_of s) ≡ true
      back h =
          let r = some-of (is_ahead t) (next s) h in
          let l : Leads next s t = elim (or_cases (same_id t r.0) (is_among same_id t (all_of r.0)) r.2) [
            | inl e ↦ direct s t (subst (Among (next s)) (sym (same_id-sound t r.0 e)) r.1)
            | inr e ↦ further s r.0 t r.1 (is-led r.0 t (among-from_test t (all_of r.0) e))
          ] in test-from_among t (all_of s) (is-reached s t l)
