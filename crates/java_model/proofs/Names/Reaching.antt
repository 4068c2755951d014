-- What a list of successors leads to is closed under them, where only elements of a finite list have any.
use Rattle.std.proofs.Common.{◌≡◌, ◌<◌, ◌≤◌, ℕ, zero, suc, Bool, true, false, cond, not, List, [], ◌∷◌, ◌++◌, length, filter, flat_map, ◌⊎◌, inl, inr, refl, sym, ap, ◌∙◌, subst, arith, true≢false, append-nil}
use Rattle.std.proofs.lemmas.Bool.{cases_Bool, both_ways, not-true, not_from_true, not_from_false, false_from_ne_true}
use Rattle.java_model.specs.Names.Lists.{is_among, fresh, reached}
use Rattle.java_model.proofs.Names.Membership.{Among, among-append, among-left, among-right, among-flat_map, flat_mapped, among-from_test, test-from_among}

-- a list without elements
pub nothing : {X : Type 0} (xs : List X) → ((x : X) → Among xs x → ⊥) → xs ≡ []
nothing [] none = refl
nothing (x ∷ xs) none = absurd (none x (inl refl))

-- a test that passes less often keeps fewer
fewer_step : {X : Type 0} (x : X) (ps qs : List X) (a b : Bool) → (a ≡ true → b ≡ true) → length ps ≤ length qs
    → length (cond a (x ∷ ps) ps) ≤ length (cond b (x ∷ qs) qs)
fewer_step x ps qs true true h l = omega (arith, l)
fewer_step x ps qs true false h l = absurd (true≢false (sym (h refl)))
fewer_step x ps qs false true h l = omega (arith, l)
fewer_step x ps qs false false h l = l

pub fewer : {X : Type 0} (p q : X → Bool) (xs : List X) → ((x : X) → p x ≡ true → q x ≡ true) → length (filter p xs) ≤ length (filter q xs)
fewer p q [] h = omega arith
fewer p q (x ∷ xs) h = fewer_step x (filter p xs) (filter q xs) (p x) (q x) (h x) (fewer p q xs h)

at_most_step : {X : Type 0} (x : X) (ps xs : List X) (b : Bool) → length ps ≤ length xs → length (cond b (x ∷ ps) ps) ≤ length (x ∷ xs)
at_most_step x ps xs true l = omega (arith, l)
at_most_step x ps xs false l = omega (arith, l)

at_most_all : {X : Type 0} (p : X → Bool) (xs : List X) → length (filter p xs) ≤ length xs
at_most_all p [] = omega arith
at_most_all p (x ∷ xs) = at_most_step x (filter p xs) xs (p x) (at_most_all p xs)

one_less : {X : Type 0} (x : X) (ps qs : List X) (a b : Bool) → a ≡ false → b ≡ true → length ps ≤ length qs
    → length (cond a (x ∷ ps) ps) < length (cond b (x ∷ qs) qs)
one_less x ps qs true b e h l = absurd (true≢false e)
one_less x ps qs false true e h l = omega (arith, l)
one_less x ps qs false false e h l = absurd (true≢false (sym h))

less_step : {X : Type 0} (x : X) (ps qs : List X) (a b : Bool) → (a ≡ true → b ≡ true) → length ps < length qs
    → length (cond a (x ∷ ps) ps) < length (cond b (x ∷ qs) qs)
less_step x ps qs true true h l = omega (arith, l)
less_step x ps qs true false h l = absurd (true≢false (sym (h refl)))
less_step x ps qs false true h l = omega (arith, l)
less_step x ps qs false false h l = l

pub strictly_fewer : {X : Type 0} (p q : X → Bool) (xs : List X) → ((x : X) → p x ≡ true → q x ≡ true)
    → (u : X) → Among xs u → p u ≡ false → q u ≡ true → length (filter p xs) < length (filter q xs)
strictly_fewer p q [] h u a e f = absurd a
strictly_fewer p q (x ∷ xs) h u (inl i) e f =
    one_less x (filter p xs) (filter q xs) (p x) (q x) (ap p i ∙ e) (ap q i ∙ f) (fewer p q xs h)
strictly_fewer p q (x ∷ xs) h u (inr a) e f =
    less_step x (filter p xs) (filter q xs) (p x) (q x) (h x) (strictly_fewer p q xs h u a e f)

module _ {X : Type 0} (same : X → X → Bool) (sound : (x y : X) → same x y ≡ true → x ≡ y) (alike : (x : X) → same x x ≡ true) where
  -- each element is seen or fresh, and none is both
  seen_or_fresh_by : (seen ys : List X) (x y : X) (b : Bool) → is_among same y seen ≡ b → (y ≡ x) ⊎ Among ys x
      → ((ts : List X) → Among ys x → Among ts x ⊎ Among (fresh same ts ys) x)
      → Among seen x ⊎ Among (cond b (fresh same seen ys) (y ∷ fresh same (y ∷ seen) ys)) x
  seen_or_fresh_by seen ys x y true e (inl i) more = inl (subst (Among seen) i (among-from_test same sound y seen e))
  seen_or_fresh_by seen ys x y true e (inr a) more = more seen a
  seen_or_fresh_by seen ys x y false e (inl i) more = inr (inl i)
  seen_or_fresh_by seen ys x y false e (inr a) more = elim (more (y ∷ seen) a) [
    | inl c ↦ elim c [
      | inl i ↦ inr (inl i)
      | inr m ↦ inl m
    ]
    | inr m ↦ inr (inr m)
  ]

  pub seen_or_fresh : (seen xs : List X) (x : X) → Among xs x → Among seen x ⊎ Among (fresh same seen xs) x
  seen_or_fresh seen [] x a = absurd a
  seen_or_fresh seen (y ∷ ys) x a = seen_or_fresh_by seen ys x y (is_among same y seen) refl a (λ ts b. seen_or_fresh ts ys x b)

  not_both_by : (seen ys : List X) (x y : X) (b : Bool) → is_among same y seen ≡ b
      → Among (cond b (fresh same seen ys) (y ∷ fresh same (y ∷ seen) ys)) x
      → ((ts : List X) → Among (fresh same ts ys) x → Among ts x → ⊥) → Among seen x → ⊥
  not_both_by seen ys x y true e a more s = more seen a s
  not_both_by seen ys x y false e (inl i) more s =
      true≢false (sym (test-from_among same alike y seen (subst (Among seen) (sym i) s)) ∙ e)
  not_both_by seen ys x y false e (inr a) more s = more (y ∷ seen) a (inr s)

  pub not_both : (seen xs : List X) (x : X) → Among (fresh same seen xs) x → Among seen x → ⊥
  not_both seen [] x a s = a
  not_both seen (y ∷ ys) x a s = not_both_by seen ys x y (is_among same y seen) refl a (λ ts b. not_both ts ys x b) s

  module _ (next : X → List X) (universe : List X) (live : (x y : X) → Among (next x) y → Among universe x) (start : X) where
    abbrev IsFrom : List X → X → Type 0
    IsFrom seen x = (x ≡ start) ⊎ Among seen x

    abbrev HasNext : List X → X → Type 0
    HasNext seen x = (y : X) → Among (next x) y → Among seen y

    -- all successors of what was seen were seen
    abbrev pub IsClosed : List X → Type 0
    IsClosed seen = (x : X) → IsFrom seen x → HasNext seen x

    -- the same but for those on the front
    abbrev IsClosedBut : List X → List X → Type 0
    IsClosedBut front seen = (x : X) → IsFrom seen x → Among front x ⊎ HasNext seen x

    abbrev unseen : List X → ℕ
    unseen seen = length (filter (λ u. not (is_among same u seen)) universe)

    further : (front seen new : List X) → new ≡ fresh same seen (flat_map next front) → IsClosedBut front seen
        → (x : X) → IsFrom seen x → HasNext (seen ++ new) x
    further front seen new e h x f y m = elim (h x f) [
      | inl a ↦ elim (seen_or_fresh seen (flat_map next front) y (flat_mapped next front x y a m)) [
        | inl s ↦ among-left seen new y s
        | inr s ↦ among-right seen new y (subst (λ ts. Among ts y) (sym e) s)
      ]
      | inr has ↦ among-left seen new y (has y m)
    ]

    closed_but : (front seen new : List X) → new ≡ fresh same seen (flat_map next front) → IsClosedBut front seen → IsClosedBut new (seen ++ new)
    closed_but front seen new e h x (inl i) = inr (further front seen new e h x (inl i))
    closed_but front seen new e h x (inr a) = elim (among-append seen new x a) [
      | inl s ↦ inr (further front seen new e h x (inr s))
      | inr n ↦ inl n
    ]

    -- where nothing on the front has a successor, nothing is added
    at_nothing : (d : ℕ) (seen : List X) → reached d same next [] seen ≡ seen
    at_nothing zero seen = refl
    at_nothing (suc d) seen = refl

    idle : (d : ℕ) (front seen : List X) → flat_map next front ≡ [] → reached d same next front seen ≡ seen
    idle zero front seen e = refl
    idle (suc d) [] seen e = refl
    idle (suc d) (f ∷ fs) seen e =
        ap (λ ts. reached d same next ts (seen ++ ts)) (ap (fresh same seen) e) ∙ at_nothing d (seen ++ []) ∙ append-nil seen

    -- no element on the front is in the universe
    dead : (front : List X) → ((x : X) → Among front x → Among universe x → ⊥) → flat_map next front ≡ []
    dead front out = nothing (flat_map next front) (λ y m. let r = among-flat_map next front y m in out r.0 r.1 (live r.0 y r.2))

    closed_all : (seen : List X) → IsClosedBut [] seen → IsClosed seen
    closed_all seen h x f = elim (h x f) [
      | inl a ↦ absurd a
      | inr has ↦ has
    ]

    -- what is on the front has no successors
    closed_dead : (front seen : List X) → ((x : X) → Among front x → Among universe x → ⊥) → IsClosedBut front seen → IsClosed seen
    closed_dead front seen out h x f y m = elim (h x f) [
      | inl a ↦ absurd (out x a (live x y m))
      | inr has ↦ has y m
    ]

    -- an element of both lists, or none
    meets : (xs ys : List X) → ((x : X) × Among xs x × Among ys x) ⊎ ((x : X) → Among xs x → Among ys x → ⊥)
    meets [] ys = inr (λ x a b. a)
    meets (x ∷ xs) ys = elim (cases_Bool (is_among same x ys)) [
      | inl e ↦ inl (x, inl refl, among-from_test same sound x ys e)
      | inr e ↦ elim (meets xs ys) [
        | inl r ↦ inl (r.0, inr r.1, r.2)
        | inr out ↦ inr (λ z a b. elim a [
          | inl i ↦ both_ways (is_among same x ys) e (test-from_among same alike x ys (subst (Among ys) (sym i) b))
          | inr c ↦ out z c b
        ])
      ]
    ]

    seen_stays : (seen new : List X) (x : X) → not (is_among same x (seen ++ new)) ≡ true → not (is_among same x seen) ≡ true
    seen_stays seen new x h = elim (cases_Bool (is_among same x seen)) [
      | inl e ↦ absurd (both_ways (is_among same x (seen ++ new)) (not-true (is_among same x (seen ++ new)) h)
          (test-from_among same alike x (seen ++ new) (among-left seen new x (among-from_test same sound x seen e))))
      | inr e ↦ not_from_false (is_among same x seen) e
    ]

    fewer_unseen : (seen xs : List X) (x : X) → Among (fresh same seen xs) x → Among universe x → unseen (seen ++ fresh same seen xs) < unseen seen
    fewer_unseen seen xs x n u = strictly_fewer
        (λ u. not (is_among same u (seen ++ fresh same seen xs))) (λ u. not (is_among same u seen)) universe
        (seen_stays seen (fresh same seen xs)) x u
        (not_from_true (is_among same x (seen ++ fresh same seen xs))
        (test-from_among same alike x (seen ++ fresh same seen xs) (among-right seen (fresh same seen xs) x n)))
        (not_from_false (is_among same x seen) (false_from_ne_true (is_among same x seen)
        (λ e. not_both seen xs x n (among-from_test same sound x seen e))))

    closes : (d : ℕ) (front seen : List X) → unseen seen < d → IsClosedBut front seen → IsClosed (reached d same next front seen)
    closes zero front seen l h = absurd (omega (arith, l))
    closes (suc d) [] seen l h = closed_all seen h
    closes (suc d) (f ∷ fs) seen l h =
        let new = fresh same seen (flat_map next (f ∷ fs)) in
        let but : IsClosedBut new (seen ++ new) = closed_but (f ∷ fs) seen new refl h in
        elim (meets new universe) [
          | inl r ↦ closes d new (seen ++ new) (let less = fewer_unseen seen (flat_map next (f ∷ fs)) r.0 r.1 r.2 in omega (arith, l, less)) but
          | inr out ↦ subst IsClosed (sym (idle d new (seen ++ new) (dead new out))) (closed_dead new (seen ++ new) out but)
        ]

    pub reached_is_closed : (d : ℕ) → length universe < d → IsClosed (reached d same next (start ∷ []) [])
    reached_is_closed d l = closes d (start ∷ []) [] (let all = at_most_all (λ u. not (is_among same u [])) universe in omega (arith, l, all)) (λ x f. elim f [
      | inl i ↦ inl (inl (sym i))
      | inr a ↦ absurd a
    ])
