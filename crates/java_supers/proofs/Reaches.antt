-- Reaching by marks.
use Rattle.std.proofs.Common.{◌≡◌, ◌+◌, ◌-◌, ◌<◌, ◌≤◌, ℕ, zero, suc, ◌==◌, ◌||◌, Bool, true, false, cond, List, [], ◌∷◌, ◌++◌, inl, inr, length, take, get_or, refl, sym, ap, ◌∙◌, subst, arith, drop, true≢false}
use Rattle.std.specs.Prelude.{slice_get, slice_set, unwrap_or}
use Rattle.std.specs.List.{flat_map, list_any}
use Rattle.std.proofs.lemmas.Bool.{cases_eq, eq-eqb, ne_eqb}
use Rattle.std.proofs.lemmas.List.{append-nil, append_assoc, take_more, drop_more}
use Rattle.std.proofs.lemmas.List.Folds.{list_any-append}
use Rattle.std.proofs.lemmas.Grind.{flat_map-append}
use Rattle.java_tree.specs.declared.occurrence.TypeId.{TypeId}
use Rattle.java_model.specs.Names.Lists.{is_among, fresh, reached}
use Rattle.java_model.specs.Names.Environments.{same_id}
use Rattle.java_supers.specs.Keeping.{has_mark}
use Rattle.java_supers.specs.Reaching.{next_in, reached_in, AreMarked, Adds}

-- ---- what is fresh depends on which elements were seen, and not on their order

SameAmong : List TypeId → List TypeId → Type 0
SameAmong xs ys = (u : TypeId) → is_among same_id u xs ≡ is_among same_id u ys

fresh-same : (s r xs : List TypeId) → SameAmong s r → fresh same_id s xs ≡ fresh same_id r xs
unfolding SameAmong
fresh-same s r [] h = refl
fresh-same s r (x ∷ xs) h =
    ap (λ b. cond b (fresh same_id s xs) (x ∷ fresh same_id (x ∷ s) xs)) (h x)
    ∙ ap (λ ts. cond (is_among same_id x r) ts (x ∷ fresh same_id (x ∷ s) xs)) (fresh-same s r xs h)
    ∙ ap (λ ts. cond (is_among same_id x r) (fresh same_id r xs) (x ∷ ts)) (fresh-same (x ∷ s) (x ∷ r) xs (λ u. ap (λ b. same_id u x || b) (h u)))

or-swap : (a b c : Bool) → (a || (b || c)) ≡ (b || (a || c))
or-swap true true c = refl
or-swap true false c = refl
or-swap false true c = refl
or-swap false false c = refl

moved : (s f : List TypeId) (x : TypeId) → SameAmong ((x ∷ s) ++ f) (s ++ x ∷ f)
unfolding SameAmong
moved s f x u =
    ap (λ b. same_id u x || b) (list_any-append (same_id u) s f) ∙ or-swap (same_id u x) (list_any (same_id u) s) (list_any (same_id u) f)
    ∙ sym (list_any-append (same_id u) s (x ∷ f))

fresh-append : (s xs ys : List TypeId) → fresh same_id s (xs ++ ys) ≡ fresh same_id s xs ++ fresh same_id (s ++ fresh same_id s xs) ys
fresh-append s [] ys = ap (λ t. fresh same_id t ys) (sym (append-nil s))
fresh-append s (x ∷ xs) ys = by (is_among same_id x s) (fresh-append s xs ys) (fresh-append (x ∷ s) xs ys)
  where
    by : (b : Bool) → fresh same_id s (xs ++ ys) ≡ fresh same_id s xs ++ fresh same_id (s ++ fresh same_id s xs) ys
        → fresh same_id (x ∷ s) (xs ++ ys) ≡ fresh same_id (x ∷ s) xs ++ fresh same_id ((x ∷ s) ++ fresh same_id (x ∷ s) xs) ys
        → cond b (fresh same_id s (xs ++ ys)) (x ∷ fresh same_id (x ∷ s) (xs ++ ys))
        ≡ cond b (fresh same_id s xs) (x ∷ fresh same_id (x ∷ s) xs) ++ fresh same_id (s ++ cond b (fresh same_id s xs) (x ∷ fresh same_id (x ∷ s) xs)) ys
    by true seen new = seen
    by false seen new =
        ap (λ ts. x ∷ ts) new
        ∙ ap (λ ts. x ∷ (fresh same_id (x ∷ s) xs ++ ts)) (fresh-same ((x ∷ s) ++ fresh same_id (x ∷ s) xs) (s ++ x ∷ fresh same_id (x ∷ s) xs) ys (moved s (fresh same_id (x ∷ s) xs) x))

-- ---- one type after the other

pub adds-none : (marks : List Bool) (before : List TypeId) → Adds marks marks [] before before
adds-none marks before = record { added = λ seen m. sym (append-nil before); are_marked = λ seen m. m }

pub adds-both : (marks between marked : List Bool) (xs ys before middle after : List TypeId) → Adds marks between xs before middle → Adds between marked ys middle after → Adds marks marked (xs ++ ys) before after
adds-both marks between marked xs ys before middle after one two = record {
  added = λ seen m.
      let f = one.added seen m in
      two.added seen (one.are_marked seen m) ∙ ap (λ ts. ts ++ fresh same_id (seen ++ middle) ys) f
      ∙ append_assoc before (fresh same_id (seen ++ before) xs) (fresh same_id (seen ++ middle) ys)
      ∙ ap (λ ts. before ++ (fresh same_id (seen ++ before) xs ++ fresh same_id ts ys)) (ap (λ ts. seen ++ ts) f ∙ sym (append_assoc seen before (fresh same_id (seen ++ before) xs)))
      ∙ ap (λ ts. before ++ ts) (sym (fresh-append (seen ++ before) xs ys));
  are_marked = λ seen m. two.are_marked seen (one.are_marked seen m);
}

pub adds-seen : (marks seen-marks : List Bool) (t : TypeId) (b : Bool) (before : List TypeId) → seen-marks ≡ marks → b ≡ has_mark seen-marks t → b ≡ true → Adds marks marks (t ∷ []) before before
adds-seen marks seen-marks t b before same is marked-it = record {
  added = λ seen m. sym (ap (λ c. before ++ cond c [] (t ∷ [])) (m t ∙ ap (λ ms. has_mark ms t) (sym same) ∙ sym is ∙ marked-it) ∙ append-nil before);
  are_marked = λ seen m. m;
}

eq-suc : (k n : ℕ) → (k == n) ≡ (suc k == suc n)
eq-suc k n = elim (cases_eq k n) [
  | inl e ↦ eq-eqb k n e ∙ sym (eq-eqb (suc k) (suc n) (ap suc e))
  | inr d ↦ ne_eqb k n d ∙ sym (ne_eqb (suc k) (suc n) (λ e. d (let f : k ≡ n = omega (arith, e) in f)))
]

mark-at : (marks : List Bool) (n k : ℕ) → n < length marks → unwrap_or (slice_get (slice_set marks n true) k) false ≡ ((k == n) || unwrap_or (slice_get marks k) false)
mark-at [] n k h = absurd (omega (arith, h))
mark-at (b ∷ marks) zero zero h = refl
mark-at (b ∷ marks) zero (suc k) h = let e : (suc k == 0) ≡ false = ne_eqb (suc k) 0 (λ e. absurd (omega (arith, e))) in sym (ap (λ c. c || unwrap_or (slice_get marks k) false) e)
mark-at (b ∷ marks) (suc n) zero h = let e : (0 == suc n) ≡ false = ne_eqb 0 (suc n) (λ e. absurd (omega (arith, e))) in sym (ap (λ c. c || b) e)
mark-at (b ∷ marks) (suc n) (suc k) h = mark-at marks n k (omega (arith, h)) ∙ ap (λ c. c || unwrap_or (slice_get marks k) false) (eq-suc k n)

or-comm : (a b : Bool) → (a || (b || false)) ≡ (b || a)
or-comm true true = refl
or-comm true false = refl
or-comm false true = refl
or-comm false false = refl

pub adds-new : (marks marked seen-marks : List Bool) (t : TypeId) (b : Bool) (before after : List TypeId) → seen-marks ≡ marks → b ≡ has_mark seen-marks t → b ≡ false → t.0 < length marks
    → marked ≡ slice_set marks t.0 true → after ≡ before ++ t ∷ [] → Adds marks marked (t ∷ []) before after
adds-new marks marked seen-marks t b before after same is off within now pushed = record {
  added = λ seen m. pushed ∙ sym (ap (λ c. before ++ cond c [] (t ∷ [])) (m t ∙ ap (λ ms. has_mark ms t) (sym same) ∙ sym is ∙ off));
  are_marked = λ seen m u.
      ap (λ ts. is_among same_id u (seen ++ ts)) pushed ∙ ap (is_among same_id u) (sym (append_assoc seen before (t ∷ []))) ∙ list_any-append (same_id u) (seen ++ before) (t ∷ [])
      ∙ or-comm (is_among same_id u (seen ++ before)) (same_id u t) ∙ ap (λ c. same_id u t || c) (m u)
      ∙ sym (ap (λ ms. has_mark ms u) now ∙ mark-at marks t.0 u.0 within);
}

pub adds-next : (marks between marked : List Bool) (types : List TypeId) (i : ℕ) (x : TypeId) (before middle after : List TypeId) → i < length types → x ≡ get_or types i x
    → Adds marks between (take i types) before middle → Adds between marked (x ∷ []) middle after → Adds marks marked (take (i + 1) types) before after
adds-next marks between marked types i x before middle after h at one two =
    subst (λ ts. Adds marks marked ts before after) (sym (take_more types i x h ∙ ap (λ y. take i types ++ y ∷ []) (sym at)))
    (adds-both marks between marked (take i types) (x ∷ []) before middle after one two)

flat-one : (f : TypeId → List TypeId) (x : TypeId) → flat_map f (x ∷ []) ≡ f x
flat-one f x = append-nil (f x)

pub adds-front : (nexts : List (List TypeId)) (marks between marked : List Bool) (front next : List TypeId) (i : ℕ) (x : TypeId) (before middle after : List TypeId) → i < length front → x ≡ get_or front i x
    → next ≡ next_in nexts x → Adds marks between (flat_map (next_in nexts) (take i front)) before middle → Adds between marked next middle after
    → Adds marks marked (flat_map (next_in nexts) (take (i + 1) front)) before after
adds-front nexts marks between marked front next i x before middle after h at is one two =
    let all : flat_map (next_in nexts) (take i front) ++ next ≡ flat_map (next_in nexts) (take (i + 1) front) =
    ap (λ ts. flat_map (next_in nexts) (take i front) ++ ts) (is ∙ sym (flat-one (next_in nexts) x)) ∙ sym (flat_map-append (next_in nexts) (take i front) (x ∷ []))
    ∙ ap (flat_map (next_in nexts)) (sym (take_more front i x h ∙ ap (λ y. take i front ++ y ∷ []) (sym at))) in
    subst (λ ts. Adds marks marked ts before after) all (adds-both marks between marked (flat_map (next_in nexts) (take i front)) next before middle after one two)

-- ---- the fronts

pub at-nothing : (nexts : List (List TypeId)) (k : ℕ) (front seen : List TypeId) → front ≡ [] → reached k same_id (next_in nexts) front seen ≡ seen
at-nothing nexts k front seen none = ap (λ ts. reached k same_id (next_in nexts) ts seen) none ∙ by k
  where
    by : (k : ℕ) → reached k same_id (next_in nexts) [] seen ≡ seen
    by zero = refl
    by (suc j) = refl

pub record Reaches (nexts : List (List TypeId)) (t : TypeId) (step : ℕ) (marks : List Bool) (front seen : List TypeId) : Type 0 where
  pub same : reached (suc (length nexts) - step) same_id (next_in nexts) front seen ≡ reached_in nexts t
  pub marked : AreMarked marks seen

pub begins : (nexts : List (List TypeId)) (t : TypeId) (marks : List Bool) (front seen : List TypeId) → ((u : TypeId) → has_mark marks u ≡ false) → front ≡ t ∷ [] → seen ≡ []
    → Reaches nexts t 0 marks front seen
begins nexts t marks front seen none one empty =
    let all : suc (length nexts) - 0 ≡ suc (length nexts) = omega arith in
    record {
      same = ap (λ k. reached k same_id (next_in nexts) front seen) all ∙ ap (λ ts. reached (suc (length nexts)) same_id (next_in nexts) ts seen) one
          ∙ ap (reached (suc (length nexts)) same_id (next_in nexts) (t ∷ [])) empty;
      marked = λ u. ap (is_among same_id u) empty ∙ sym (none u);
    }

one-step : (nexts : List (List TypeId)) (k : ℕ) (front seen new : List TypeId) → (front ≡ [] → ⊥) → new ≡ fresh same_id seen (flat_map (next_in nexts) front)
    → reached (suc k) same_id (next_in nexts) front seen ≡ reached k same_id (next_in nexts) new (seen ++ new)
one-step nexts k [] seen new some is = absurd (some refl)
one-step nexts k (x ∷ xs) seen new some is = ap (λ ts. reached k same_id (next_in nexts) ts (seen ++ ts)) (sym is)

pub goes-on : (nexts : List (List TypeId)) (t : TypeId) (step : ℕ) (marks marked : List Bool) (front seen new after : List TypeId) → step < length nexts + 1 → (front ≡ [] → ⊥)
    → Reaches nexts t step marks front seen → Adds marks marked (flat_map (next_in nexts) front) [] new → after ≡ seen ++ new → Reaches nexts t (step + 1) marked new after
goes-on nexts t step marks marked front seen new after h some r adds grown =
    let left : suc (length nexts) - step ≡ suc (suc (length nexts) - (step + 1)) = omega (arith, h) in
    let m : AreMarked marks (seen ++ []) = subst (AreMarked marks) (sym (append-nil seen)) r.marked in
    let is : new ≡ fresh same_id seen (flat_map (next_in nexts) front) = adds.added seen m ∙ ap (λ ts. fresh same_id ts (flat_map (next_in nexts) front)) (append-nil seen) in
    record {
      same = ap (reached (suc (length nexts) - (step + 1)) same_id (next_in nexts) new) grown
          ∙ sym (one-step nexts (suc (length nexts) - (step + 1)) front seen new some is) ∙ ap (λ k. reached k same_id (next_in nexts) front seen) (sym left) ∙ r.same;
      marked = subst (AreMarked marked) (sym grown) (adds.are_marked seen m);
    }

pub ends-early : (nexts : List (List TypeId)) (t : TypeId) (step : ℕ) (marks : List Bool) (front seen : List TypeId) → Reaches nexts t step marks front seen → front ≡ [] → seen ≡ reached_in nexts t
ends-early nexts t step marks front seen r none = sym (at-nothing nexts (suc (length nexts) - step) front seen none) ∙ r.same

pub ends-late : (nexts : List (List TypeId)) (t : TypeId) (step : ℕ) (marks : List Bool) (front seen : List TypeId) → Reaches nexts t step marks front seen → length nexts + 1 ≤ step → seen ≡ reached_in nexts t
ends-late nexts t step marks front seen r h =
    let none : suc (length nexts) - step ≡ 0 = omega (arith, h) in sym (ap (λ k. reached k same_id (next_in nexts) front seen) none) ∙ r.same

-- ---- marks taken away

unmark-at : (marks : List Bool) (n k : ℕ) → unwrap_or (slice_get (slice_set marks n false) k) false ≡ true → (unwrap_or (slice_get marks k) false ≡ true) × ((k == n) ≡ false)
unmark-at [] n k h = absurd (true≢false (sym h))
unmark-at (b ∷ marks) zero zero h = absurd (true≢false (sym h))
unmark-at (b ∷ marks) zero (suc k) h = (h, ne_eqb (suc k) 0 (λ e. absurd (omega (arith, e))))
unmark-at (b ∷ marks) (suc n) zero h = (h, ne_eqb 0 (suc n) (λ e. absurd (omega (arith, e))))
unmark-at (b ∷ marks) (suc n) (suc k) h = let r = unmark-at marks n k h in (r.0, sym (eq-suc k n) ∙ r.1)

-- Only types that are left are marked.
abbrev pub OnlyMarked : List Bool → List TypeId → Type 0
OnlyMarked marks ts = (u : TypeId) → has_mark marks u ≡ true → is_among same_id u ts ≡ true

pub one-less-marked : (marks after : List Bool) (types : List TypeId) (i : ℕ) (x : TypeId) → i < length types → x ≡ get_or types i x → after ≡ slice_set marks x.0 false
    → OnlyMarked marks (drop i types) → OnlyMarked after (drop (i + 1) types)
one-less-marked marks after types i x h at is only u marked =
    let r = unmark-at marks x.0 u.0 (ap (λ ms. has_mark ms u) (sym is) ∙ marked) in
    let first : drop i types ≡ x ∷ drop (i + 1) types = drop_more types i x h ∙ ap (λ y. y ∷ drop (i + 1) types) (sym at) in
    sym (ap (λ b. b || is_among same_id u (drop (i + 1) types)) r.1) ∙ ap (is_among same_id u) (sym first) ∙ only u r.0
