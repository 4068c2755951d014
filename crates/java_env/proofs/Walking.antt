-- Walks from type to type.
use Rattle.std.proofs.Common.{◌≡◌, ◌+◌, ◌≤◌, ◌<◌, ℕ, zero, suc, Bool, true, false, ◌||◌, List, [], ◌∷◌, ◌++◌, length, take, get_or, inl, inr, refl, sym, ap, ◌∙◌, subst, arith, true≢false}
use Rattle.std.specs.Prelude.{◌⊎◌}
use Rattle.std.specs.List.{list_any}
use Rattle.std.proofs.lemmas.Bool.{cases_Bool, cases_lt, or_cases, or_left, or_right, eqb-true, eq-eqb}
use Rattle.std.proofs.lemmas.List.{take_more}
use Rattle.std.proofs.lemmas.List.Folds.{list_any-append}
use Rattle.java_tree.specs.declared.occurrence.TypeId.{TypeId}
use Rattle.java_model.specs.Names.Environments.{same_id, type_id}
use Rattle.java_model.specs.Names.Lists.{is_among}
use Rattle.java_env.specs.Walks.{Next, finds, Walk, here, on, IsReached, IsReaching, Goes, Adds}

pub one-id : (s t : TypeId) → same_id s t ≡ true → s ≡ t
one-id s t e = ap type_id (eqb-true s.0 t.0 e)

pub id-self : (t : TypeId) → same_id t t ≡ true
id-self t = eq-eqb t.0 t.0 refl

-- ---- the last step of a walk

pub one-more : (next : Next) (n : ℕ) (t v u : TypeId) → Walk next n t v → is_among same_id u (next v) ≡ true → Walk next (suc n) t u
one-more next _ _ _ u (here t) h = on 0 t u u h (here u)
one-more next _ _ v u (on n s t _ h w) k = on (suc n) s t u h (one-more next n t v u w k)

pub last-step : (next : Next) (n : ℕ) (t u : TypeId) → Walk next (suc n) t u → (v : TypeId) × Walk next n t v × (is_among same_id u (next v) ≡ true)
last-step next n s u w = by (suc n) s u w n refl
  where
    by : (m : ℕ) (s u : TypeId) → Walk next m s u → (n : ℕ) → m ≡ suc n → (v : TypeId) × Walk next n s v × (is_among same_id u (next v) ≡ true)
    by _ _ _ (here t) n e = absurd (omega (arith, e))
    by _ _ u (on k s t _ h (here _)) n e =
        (s, subst (λ j. Walk next j s s) (let z : 0 ≡ n = omega (arith, e) in z) (here s), h)
    by _ _ u (on _ s t _ h (on k _ x _ g w)) n e =
        let r = by (suc k) t u (on k t x u g w) k refl in
        (r.0, subst (λ j. Walk next j s r.0) (let z : suc k ≡ n = omega (arith, e) in z) (on k s t r.0 h r.1), r.2)

-- ---- a front and what is next to it

pub goes-on : (next : Next) (step : ℕ) (t : TypeId) (front new : List TypeId) (seen after : TypeId → Bool) → IsReaching next step t front seen → Goes next front seen new after → IsReaching next (step + 1) t new after
goes-on next step t front new seen after r g = record {
  reached = record {
    sound = λ u e. elim (g.added u e) as (λ _. (n : ℕ) × (n ≤ step + 1) × Walk next n t u) [
      | inl old ↦ let s = r.reached.sound u old in (s.0, (let l = s.1 in omega (arith, l)), s.2)
      | inr is_new ↦
          let f = g.from u is_new in
          let s = r.reached.sound f.0 (r.fronts f.0 f.1) in
          (suc s.0, (let l = s.1 in omega (arith, l)), one-more next s.0 t f.0 u s.2 f.2)
    ];
    complete = λ n u l w. elim (cases_lt step n) as (λ _. after u ≡ true) [
      | inr le ↦ g.grows u (r.reached.complete n u le w)
      | inl lt ↦
          let same : n ≡ suc step = omega (arith, l, lt) in
          let p = last-step next step t u (subst (λ k. Walk next k t u) same w) in
          nexts p.0 u (r.reached.complete step p.0 (omega arith) p.1) p.2
    ];
  };
  fronts = g.new_seen;
  closed = λ v s e out k. elim (g.added v e) as (λ _. after s ≡ true) [
    | inl old ↦ nexts v s old k
    | inr is_new ↦ absurd (true≢false (sym is_new ∙ out))
  ];
}
  where
    nexts : (v s : TypeId) → seen v ≡ true → is_among same_id s (next v) ≡ true → after s ≡ true
    nexts v s e k = elim (cases_Bool (is_among same_id v front)) as (λ _. after s ≡ true) [
      | inl at ↦ g.covers v s at k
      | inr out ↦ g.grows s (r.closed v s e out k)
    ]

-- nothing is left: what is seen is all that any walk comes to
pub ends : (next : Next) (step many : ℕ) (t : TypeId) (front : List TypeId) (seen : TypeId → Bool) → step ≤ many → front ≡ [] → IsReaching next step t front seen → IsReached next many t seen
ends next step many t front seen l none r = record {
  sound = λ u e. let s = r.reached.sound u e in (s.0, (let k = s.1 in omega (arith, k, l)), s.2);
  complete = λ n u _ w. all n t u w (r.reached.complete 0 t (omega arith) (here t));
}
  where
    all : (n : ℕ) (s u : TypeId) → Walk next n s u → seen s ≡ true → seen u ≡ true
    all _ _ _ (here s) e = e
    all _ _ _ (on n s x u h w) e = all n x u w (r.closed s x e (ap (is_among same_id s) none) h)

pub ends-late : (next : Next) (step many : ℕ) (t : TypeId) (front : List TypeId) (seen : TypeId → Bool) → step ≡ many → IsReaching next step t front seen → IsReached next many t seen
ends-late next step many t front seen e r = subst (λ k. IsReached next k t seen) e r.reached

-- ---- what a walk finds

some-next : (p : TypeId → Bool) (ts : List TypeId) → list_any p ts ≡ true → (u : TypeId) × (is_among same_id u ts ≡ true) × (p u ≡ true)
some-next p [] e = absurd (true≢false (sym e))
some-next p (t ∷ ts) e = elim (or_cases (p t) (list_any p ts) e) as (λ _. (u : TypeId) × (is_among same_id u (t ∷ ts) ≡ true) × (p u ≡ true)) [
  | inl y ↦ (t, or_left (same_id t t) (is_among same_id t ts) (id-self t), y)
  | inr n ↦ let r = some-next p ts n in (r.0, or_right (same_id r.0 t) (is_among same_id r.0 ts) r.1, r.2)
]

of-next : (p : TypeId → Bool) (ts : List TypeId) (u : TypeId) → is_among same_id u ts ≡ true → p u ≡ true → list_any p ts ≡ true
of-next p [] u a e = absurd (true≢false (sym a))
of-next p (t ∷ ts) u a e = elim (or_cases (same_id u t) (is_among same_id u ts) a) as (λ _. list_any p (t ∷ ts) ≡ true) [
  | inl y ↦ or_left (p t) (list_any p ts) (ap p (sym (one-id u t y)) ∙ e)
  | inr n ↦ or_right (p t) (list_any p ts) (of-next p ts u n e)
]

pub found-walk : (next : Next) (test : TypeId → Bool) (d : ℕ) (t : TypeId) → finds next test d t ≡ true → (n : ℕ) × (u : TypeId) × (n ≤ d) × Walk next n t u × (test u ≡ true)
found-walk next test zero t e = (0, t, omega arith, here t, e)
found-walk next test (suc d) t e = elim (or_cases (test t) (list_any (finds next test d) (next t)) e) as (λ _. (n : ℕ) × (u : TypeId) × (n ≤ suc d) × Walk next n t u × (test u ≡ true)) [
  | inl y ↦ (0, t, omega arith, here t, y)
  | inr n ↦
      let s = some-next (finds next test d) (next t) n in
      let r = found-walk next test d s.0 s.2 in
      (suc r.0, r.1, (let l = r.2 in omega (arith, l)), on r.0 t s.0 r.1 s.1 r.3, r.4)
]

pub walk-finds : (next : Next) (test : TypeId → Bool) (d n : ℕ) (t u : TypeId) → n ≤ d → Walk next n t u → test u ≡ true → finds next test d t ≡ true
walk-finds next test zero _ _ _ l (here t) e = e
walk-finds next test (suc d) _ _ _ l (here t) e = or_left (test t) (list_any (finds next test d) (next t)) e
walk-finds next test zero _ _ _ l (on n s t u h w) e = absurd (omega (arith, l))
walk-finds next test (suc d) _ _ _ l (on n s t u h w) e =
    or_right (test s) (list_any (finds next test d) (next s)) (of-next (finds next test d) (next s) t h (walk-finds next test d n t u (omega (arith, l)) w e))

-- ---- types that are added

pub adds-none : (seen : TypeId → Bool) (new : List TypeId) → Adds seen new [] seen new
adds-none seen new = record {
  grows = λ u e. e;
  added = λ u e. inl e;
  kept = λ u e. e;
  from = λ u e. inl e;
  covers = λ u e. absurd (true≢false (sym e));
}

among-append : (u : TypeId) (xs ys : List TypeId) → is_among same_id u (xs ++ ys) ≡ (is_among same_id u xs || is_among same_id u ys)
among-append u xs ys = list_any-append (same_id u) xs ys

pub adds-more : (seen after later : TypeId → Bool) (new news newest xs ys : List TypeId) → Adds seen new xs after news → Adds after news ys later newest → Adds seen new (xs ++ ys) later newest
adds-more seen after later new news newest xs ys f g = record {
  grows = λ u e. g.grows u (f.grows u e);
  added = λ u e. elim (g.added u e) as (λ _. (seen u ≡ true) ⊎ (is_among same_id u newest ≡ true)) [
    | inl old ↦ elim (f.added u old) as (λ _. (seen u ≡ true) ⊎ (is_among same_id u newest ≡ true)) [ inl o ↦ inl o | inr n ↦ inr (g.kept u n) ]
    | inr n ↦ inr n
  ];
  kept = λ u e. g.kept u (f.kept u e);
  from = λ u e. elim (g.from u e) as (λ _. (is_among same_id u new ≡ true) ⊎ ((is_among same_id u (xs ++ ys) ≡ true) × (later u ≡ true))) [
    | inl n ↦ elim (f.from u n) as (λ _. (is_among same_id u new ≡ true) ⊎ ((is_among same_id u (xs ++ ys) ≡ true) × (later u ≡ true))) [
      | inl o ↦ inl o
      | inr x ↦ inr (among-append u xs ys ∙ or_left (is_among same_id u xs) (is_among same_id u ys) x.0, g.grows u x.1)
    ]
    | inr y ↦ inr (among-append u xs ys ∙ or_right (is_among same_id u xs) (is_among same_id u ys) y.0, y.1)
  ];
  covers = λ u e. elim (or_cases (is_among same_id u xs) (is_among same_id u ys) (sym (among-append u xs ys) ∙ e)) as (λ _. later u ≡ true) [
    | inl x ↦ g.grows u (f.covers u x)
    | inr y ↦ g.covers u y
  ];
}

pub adds-known : (seen after : TypeId → Bool) (new : List TypeId) (t : TypeId) → ((u : TypeId) → seen u ≡ after u) → seen t ≡ true → Adds seen new (t ∷ []) after new
adds-known seen after new t same known = record {
  grows = λ u e. sym (same u) ∙ e;
  added = λ u e. inl (same u ∙ e);
  kept = λ u e. e;
  from = λ u e. inl e;
  covers = λ u e. sym (same u) ∙ elim (or_cases (same_id u t) false e) as (λ _. seen u ≡ true) [ inl y ↦ ap seen (one-id u t y) ∙ known | inr n ↦ absurd (true≢false (sym n)) ];
}

pub adds-new : (seen after : TypeId → Bool) (new news : List TypeId) (t : TypeId) → ((u : TypeId) → after u ≡ (same_id u t || seen u)) → news ≡ new ++ t ∷ [] → Adds seen new (t ∷ []) after news
adds-new seen after new news t is e = record {
  grows = λ u s. is u ∙ or_right (same_id u t) (seen u) s;
  added = λ u a. elim (or_cases (same_id u t) (seen u) (sym (is u) ∙ a)) as (λ _. (seen u ≡ true) ⊎ (is_among same_id u news ≡ true)) [
    | inl y ↦ inr (among u ∙ or_right (is_among same_id u new) (is_among same_id u (t ∷ [])) (or_left (same_id u t) false y))
    | inr n ↦ inl n
  ];
  kept = λ u a. among u ∙ or_left (is_among same_id u new) (is_among same_id u (t ∷ [])) a;
  from = λ u a. elim (or_cases (is_among same_id u new) (is_among same_id u (t ∷ [])) (sym (among u) ∙ a)) as (λ _. (is_among same_id u new ≡ true) ⊎ ((is_among same_id u (t ∷ []) ≡ true) × (after u ≡ true))) [
    | inl o ↦ inl o
    | inr x ↦ inr (x, covered u x)
  ];
  covers = λ u a. covered u a;
}
  where
    among : (u : TypeId) → is_among same_id u news ≡ (is_among same_id u new || is_among same_id u (t ∷ []))
    among u = ap (is_among same_id u) e ∙ list_any-append (same_id u) new (t ∷ [])

    covered : (u : TypeId) → is_among same_id u (t ∷ []) ≡ true → after u ≡ true
    covered u a = elim (or_cases (same_id u t) false a) as (λ _. after u ≡ true) [ inl y ↦ is u ∙ or_left (same_id u t) (seen u) y | inr n ↦ absurd (true≢false (sym n)) ]

-- ---- a front

pub goes-none : (next : Next) (seen : TypeId → Bool) → Goes next [] seen [] seen
goes-none next seen = record {
  grows = λ u e. e;
  added = λ u e. inl e;
  new_seen = λ u e. absurd (true≢false (sym e));
  from = λ u e. absurd (true≢false (sym e));
  covers = λ w u e k. absurd (true≢false (sym e));
}

pub goes-more : (next : Next) (seen after later : TypeId → Bool) (front new news : List TypeId) (w : TypeId) → Goes next front seen new after → Adds after new (next w) later news → Goes next (front ++ w ∷ []) seen news later
goes-more next seen after later front new news w f g = record {
  grows = λ u e. g.grows u (f.grows u e);
  added = λ u e. elim (g.added u e) as (λ _. (seen u ≡ true) ⊎ (is_among same_id u news ≡ true)) [
    | inl old ↦ elim (f.added u old) as (λ _. (seen u ≡ true) ⊎ (is_among same_id u news ≡ true)) [ inl o ↦ inl o | inr n ↦ inr (g.kept u n) ]
    | inr n ↦ inr n
  ];
  new_seen = λ u e. elim (g.from u e) as (λ _. later u ≡ true) [ inl n ↦ g.grows u (f.new_seen u n) | inr x ↦ x.1 ];
  from = λ u e. elim (g.from u e) as (λ _. (v : TypeId) × (is_among same_id v (front ++ w ∷ []) ≡ true) × (is_among same_id u (next v) ≡ true)) [
    | inl n ↦ let r = f.from u n in (r.0, among-append r.0 front (w ∷ []) ∙ or_left (is_among same_id r.0 front) (is_among same_id r.0 (w ∷ [])) r.1, r.2)
    | inr x ↦ (w, among-append w front (w ∷ []) ∙ or_right (is_among same_id w front) (is_among same_id w (w ∷ [])) (or_left (same_id w w) false (id-self w)), x.0)
  ];
  covers = λ v u a k. elim (or_cases (is_among same_id v front) (is_among same_id v (w ∷ [])) (sym (among-append v front (w ∷ [])) ∙ a)) as (λ _. later u ≡ true) [
    | inl o ↦ g.grows u (f.covers v u o k)
    | inr x ↦ elim (or_cases (same_id v w) false x) as (λ _. later u ≡ true) [ inl y ↦ g.covers u (ap (λ t. is_among same_id u (next t)) (sym (one-id v w y)) ∙ k) | inr n ↦ absurd (true≢false (sym n)) ]
  ];
}

pub goes-next : (next : Next) (seen after later : TypeId → Bool) (front : List TypeId) (i : ℕ) (w : TypeId) (new news : List TypeId) → i < length front → w ≡ get_or front i w
    → Goes next (take i front) seen new after → Adds after new (next w) later news → Goes next (take (i + 1) front) seen news later
goes-next next seen after later front i w new news h at f g =
    subst (λ fs. Goes next fs seen news later) (sym (take_more front i w h ∙ ap (λ y. take i front ++ y ∷ []) (sym at))) (goes-more next seen after later (take i front) new news w f g)

-- a walk starts at a type that is added to none
pub starts-added : (next : Next) (t : TypeId) (none after : TypeId → Bool) (new front : List TypeId) → ((u : TypeId) → none u ≡ false) → new ≡ [] → Adds none new (t ∷ []) after front → IsReaching next 0 t front after
starts-added next t none after new front empty no_new a = record {
  reached = record {
    sound = λ u e. (0, omega arith, subst (λ x. Walk next 0 t x) (sym (alone u (in-front u e))) (here t));
    complete = λ n u l w. found n u l w;
  };
  fronts = λ u e. elim (a.from u e) as (λ _. after u ≡ true) [ inl o ↦ absurd (true≢false (sym o ∙ ap (is_among same_id u) no_new)) | inr x ↦ x.1 ];
  closed = λ v s e out k. absurd (true≢false (sym (in-front v e) ∙ out));
}
  where
    in-front : (u : TypeId) → after u ≡ true → is_among same_id u front ≡ true
    in-front u e = elim (a.added u e) as (λ _. is_among same_id u front ≡ true) [ inl o ↦ absurd (true≢false (sym o ∙ empty u)) | inr n ↦ n ]

    alone : (u : TypeId) → is_among same_id u front ≡ true → u ≡ t
    alone u e = elim (a.from u e) as (λ _. u ≡ t) [
      | inl o ↦ absurd (true≢false (sym o ∙ ap (is_among same_id u) no_new))
      | inr x ↦ elim (or_cases (same_id u t) false x.0) as (λ _. u ≡ t) [ inl y ↦ one-id u t y | inr n ↦ absurd (true≢false (sym n)) ]
    ]

    found : (n : ℕ) (u : TypeId) → n ≤ 0 → Walk next n t u → after u ≡ true
    found _ _ l (here t) = a.covers t (or_left (same_id t t) false (id-self t))
    found _ _ l (on n s x u h w) = absurd (omega (arith, l))
