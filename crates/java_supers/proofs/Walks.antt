-- A walk along first supertypes.
use Rattle.std.proofs.Common.{◌≡◌, ◌+◌, ◌<◌, ◌≤◌, ℕ, zero, suc, ◌||◌, Bool, true, false, List, [], ◌∷◌, ◌++◌, Option, is_some, length, drop, take, get_or, flat_map, inl, inr, refl, sym, ap, ◌∙◌, subst, arith, true≢false}
use Rattle.std.specs.Prelude.{slice_get, slice_index_or, unwrap_or}
use Rattle.std.specs.List.{list_all, list_any}
use Rattle.std.specs.Option.{option_map_or}
use Rattle.std.proofs.lemmas.Bool.{and_parts, cases_lt, or_left, or_right}
use Rattle.std.proofs.lemmas.List.{append-nil, append_assoc, take_more}
use Rattle.std.proofs.lemmas.Grind.{flat_map-append}
use Rattle.std.proofs.lemmas.Option.{slice_get_past}
use Rattle.std.proofs.lemmas.List.Folds.{list_any-append}
use Rattle.java_tree.specs.declared.occurrence.TypeId.{TypeId}
use Rattle.java_model.specs.Names.Lists.{is_among}
use Rattle.java_model.specs.Names.Environments.{same_id}
use Rattle.java_supers.specs.Ranking.{HaveRanks}
use Rattle.java_supers.specs.Reaching.{next_in, reached_in, HasFirst}
use Rattle.java_supers.specs.Walking.{beside_in, AreBeside}
use Rattle.java_supers.proofs.Elements.{Among}
use Rattle.java_supers.proofs.Ranks.{rank_of, falls, at_most, step-by-step}

all-some : (ranks : List (Option ℕ)) (n : ℕ) → list_all is_some ranks ≡ true → option_map_or is_some (slice_get ranks n) true ≡ true
all-some [] n h = refl
all-some (r ∷ rs) zero h = (and_parts (is_some r) (list_all is_some rs) h).0
all-some (r ∷ rs) (suc n) h = all-some rs n (and_parts (is_some r) (list_all is_some rs) h).1

module _ (nexts : List (List TypeId)) (have : HaveRanks nexts) where
  pub lower : (x y : TypeId) → Among (next_in nexts x) y → rank_of have.ranks y < rank_of have.ranks x
  lower x y a = (falls nexts have.ranks have.are x y (all-some have.ranks x.0 have.all) a).1

  -- what is ahead of a type, from one that it leads to
  abbrev is_ahead : TypeId → TypeId → Bool
  is_ahead t u = same_id t u || is_among same_id t (reached_in nexts u)

  stepped : (s t : TypeId) → is_among same_id t (reached_in nexts s) ≡ list_any (is_ahead t) (next_in nexts s)
  stepped = step-by-step (next_in nexts) (rank_of have.ranks) lower (length nexts) (at_most nexts have.ranks have.are)

  others-ahead : (t : TypeId) (os : List TypeId) → list_any (is_ahead t) os ≡ is_among same_id t (flat_map (λ o. o ∷ reached_in nexts o) os)
  others-ahead t [] = refl
  others-ahead t (o ∷ os) =
      ap (λ b. is_ahead t o || b) (others-ahead t os)
      ∙ sym (list_any-append (same_id t) (o ∷ reached_in nexts o) (flat_map (λ u. u ∷ reached_in nexts u) os))

  -- the first of those that a type leads to, or one beside
  by-first : (s t p : TypeId) (os : List TypeId) → next_in nexts s ≡ p ∷ os
      → is_among same_id t (reached_in nexts s) ≡ ((same_id t p || is_among same_id t (reached_in nexts p)) || is_among same_id t (beside_in nexts s))
  by-first s t p os e =
      stepped s t ∙ ap (list_any (is_ahead t)) e ∙ ap (λ b. is_ahead t p || b) (others-ahead t os)
      ∙ ap (λ us. is_ahead t p || is_among same_id t (flat_map (λ o. o ∷ reached_in nexts o) us)) (sym (ap (drop 1) e))

  pub leads-nowhere : (s t : TypeId) → next_in nexts s ≡ [] → is_among same_id t (reached_in nexts s) ≡ false
  leads-nowhere s t e = stepped s t ∙ ap (list_any (is_ahead t)) e

  nothing-below : (s : TypeId) (us : List TypeId) → next_in nexts s ≡ us → rank_of have.ranks s ≤ 0 → us ≡ []
  nothing-below s [] e l = refl
  nothing-below s (u ∷ us) e l = absurd (let k = lower s u (subst (λ ts. Among ts u) (sym e) (inl refl)) in omega (arith, k, l))

  pub at-end : (s t : TypeId) → rank_of have.ranks s ≤ 0 → is_among same_id t (reached_in nexts s) ≡ false
  at-end s t l = leads-nowhere s t (nothing-below s (next_in nexts s) refl l)

  module _ (beside : List (List TypeId)) (are : AreBeside nexts beside) (s t : TypeId) where
    pub found-beside : is_among same_id t (next_in beside s) ≡ true → is_among same_id t (reached_in nexts s) ≡ true
    found-beside h = by (next_in nexts s) refl
      where
        there : is_among same_id t (beside_in nexts s) ≡ true
        there = ap (is_among same_id t) (sym (are.each s)) ∙ h

        by : (us : List TypeId) → next_in nexts s ≡ us → is_among same_id t (reached_in nexts s) ≡ true
        by [] e = absurd (true≢false (sym (ap (λ us. is_among same_id t (flat_map (λ o. o ∷ reached_in nexts o) (drop 1 us))) (sym e) ∙ there)))
        by (p ∷ os) e = by-first s t p os e ∙ or_right (same_id t p || is_among same_id t (reached_in nexts p)) (is_among same_id t (beside_in nexts s)) there

    pub found-first : (p : TypeId) (os : List TypeId) → next_in nexts s ≡ p ∷ os → same_id t p ≡ true → is_among same_id t (reached_in nexts s) ≡ true
    found-first p os e h =
        by-first s t p os e
        ∙ or_left (same_id t p || is_among same_id t (reached_in nexts p)) (is_among same_id t (beside_in nexts s)) (or_left (same_id t p) (is_among same_id t (reached_in nexts p)) h)

    pub goes-on : (p : TypeId) (os : List TypeId) → next_in nexts s ≡ p ∷ os → is_among same_id t (next_in beside s) ≡ false → same_id t p ≡ false
        → is_among same_id t (reached_in nexts p) ≡ is_among same_id t (reached_in nexts s)
    goes-on p os e h k =
        let none : is_among same_id t (beside_in nexts s) ≡ false = ap (is_among same_id t) (sym (are.each s)) ∙ h in
        sym (by-first s t p os e ∙ ap (λ b. (b || is_among same_id t (reached_in nexts p)) || is_among same_id t (beside_in nexts s)) k
        ∙ ap (λ b. is_among same_id t (reached_in nexts p) || b) none ∙ or-none (is_among same_id t (reached_in nexts p)))
      where
        or-none : (b : Bool) → (b || false) ≡ b
        or-none true = refl
        or-none false = refl

    pub one-lower : (p : TypeId) (os : List TypeId) → next_in nexts s ≡ p ∷ os → rank_of have.ranks p < rank_of have.ranks s
    one-lower p os e = lower s p (subst (λ ts. Among ts p) (sym e) (inl refl))

pub first-of : (us : List TypeId) (d : TypeId) → 1 ≤ length us → us ≡ slice_index_or us 0 d ∷ drop 1 us
first-of [] d l = absurd (omega (arith, l))
first-of (u ∷ us) d l = refl

-- ---- what is kept beside

flat-next : (f : TypeId → List TypeId) (others : List TypeId) (i : ℕ) (o : TypeId) (so more after r : List TypeId) → i < length others → o ≡ get_or others i o → so ≡ flat_map f (take i others)
    → more ≡ so ++ o ∷ [] → f o ≡ o ∷ r → after ≡ more ++ r → after ≡ flat_map f (take (i + 1) others)
flat-next f others i o so more after r l at is pushed each appended =
    appended ∙ ap (λ ts. ts ++ r) pushed ∙ append_assoc so (o ∷ []) r ∙ ap (λ ts. so ++ ts) (sym each) ∙ ap (λ ts. ts ++ f o) is
    ∙ ap (λ ts. flat_map f (take i others) ++ ts) (sym (append-nil (f o))) ∙ sym (flat_map-append f (take i others) (o ∷ []))
    ∙ ap (flat_map f) (sym (take_more others i o l ∙ ap (λ y. take i others ++ y ∷ []) (sym at)))

pub beside-next : (nexts : List (List TypeId)) (others : List TypeId) (i : ℕ) (o : TypeId) (so more after r : List TypeId) → i < length others → o ≡ get_or others i o
    → so ≡ flat_map (λ u. u ∷ reached_in nexts u) (take i others) → more ≡ so ++ o ∷ [] → r ≡ reached_in nexts o → after ≡ more ++ r
    → after ≡ flat_map (λ u. u ∷ reached_in nexts u) (take (i + 1) others)
beside-next nexts others i o so more after r l at is pushed reached appended =
    flat-next (λ u. u ∷ reached_in nexts u) others i o so more after r l at is pushed (ap (λ ts. o ∷ ts) (sym reached)) appended

pub all-are-beside : (nexts table : List (List TypeId)) → HasFirst (beside_in nexts) (length nexts) table → AreBeside nexts table
all-are-beside nexts table h = record {
  each = λ t. elim (cases_lt t.0 (length nexts)) [
    | inl l ↦ ap (λ o. unwrap_or o []) (h.each t.0 l)
    | inr g ↦ ap (λ o. unwrap_or o []) (slice_get_past table t.0 (let m = h.many_are in omega (arith, g, m)))
        ∙ sym (ap (λ o. flat_map (λ u. u ∷ reached_in nexts u) (drop 1 (unwrap_or o []))) (slice_get_past nexts t.0 g))
  ];
}
