-- What is recovered of each container where one pair has changed.
use Rattle.std.proofs.Common.{◌≡◌, ◌≢◌, ◌⊎◌, inl, inr, ℕ, ◌<◌, List, Option, None, Some, IsSome, refl, sym, ◌∙◌, ap, subst, arith}
use Rattle.std.proofs.lemmas.Bool.{cases_lt, cases_eq, false≢true}
use Rattle.java_model.specs.StateFile.Cells.{pair_count}
use Rattle.java_model.specs.StateFile.Recovered.{Named, first_named}
use Rattle.index_store.specs.Kept.{Acked, Acks, kept_of, named_of, name_option, acknowledged, HasNot, IsNew, IsFirstFree}
use Rattle.index_store.proofs.Names.{same_bytes, first_none, first_at, first_same}

-- a later save or mark of a pair's container, or of a new one in a free pair
abbrev pub Pending : Acks → ℕ → Option Acked → Named → Type 0
Pending acks pair None named = IsFirstFree acks pair × IsNew acks named.name
Pending acks pair (Some a) named = named.name ≡ a.cell.name

-- a pair holds what is acknowledged, or something pending
abbrev pub IsHeldAs : Acks → ℕ → Option Acked → Option Named → Type 0
IsHeldAs acks pair acked held = (held ≡ name_option acked) ⊎ ((named : Named) × (held ≡ Some named) × Pending acks pair acked named)

abbrev pub Holding : Acks → (ℕ → Option Named) → Type 0
Holding acks held = (pair : ℕ) → pair < pair_count → IsHeldAs acks pair (acks pair) (held pair)

not_under : (name : List ℕ) (held : Option Named) (named : Named) → held ≡ Some named → named.name ≢ name → HasNot name held
not_under name held named is apart = subst (HasNot name) (sym is) apart

-- a pair doesn't hold a name that it isn't acknowledged under and that isn't pending in it
not_pending : (acks : Acks) (pair : ℕ) (acked : Option Acked) (held : Option Named) (name : List ℕ) → IsHeldAs acks pair acked held → HasNot name (name_option acked)
    → ((named : Named) → acked ≡ None → IsFirstFree acks pair → IsNew acks named.name → named.name ≢ name) → HasNot name held
not_pending acks pair acked held name (inl is) has free = subst (HasNot name) (sym is) has
not_pending acks pair None held name (inr late) has free = not_under name held late.0 late.1 (free late.0 refl late.2.0 late.2.1)
not_pending acks pair (Some a) held name (inr late) has free = not_under name held late.0 late.1 (λ e. has (sym late.2 ∙ e))

module _ (acks : Acks) (p : ℕ) (low : p < pair_count) (held was : ℕ → Option Named) (others : (q : ℕ) → q < pair_count → q ≢ p → held q ≡ was q) (holding : Holding acks was) where
  -- the pair is held, and is the first under its name
  module _ (a : Acked) (is : acks p ≡ Some a) (first : (q : ℕ) → q < p → HasNot a.cell.name (name_option (acks q))) where
    before : (q : ℕ) → q < p → HasNot a.cell.name (held q)
    before q below =
        let apart : q ≢ p = omega arith in
        subst (HasNot a.cell.name) (sym (others q (omega arith) apart))
        (not_pending acks q (acks q) (was q) a.cell.name (holding q (omega arith)) (first q below)
        (λ named free first_free new e. let has : HasNot named.name (name_option (Some a)) = subst (λ o. HasNot named.name (name_option o)) is (new p low) in has (sym e)))

    pub acked_name : acknowledged acks a.cell.name ≡ Some (kept_of a)
    acked_name = first_at (λ q. name_option (acks q)) (named_of a) p pair_count 0 (omega arith) (omega arith) (λ q above below. first q below) (ap name_option is)

    pub held_name : (x : Named) → held p ≡ Some x → x.name ≡ a.cell.name → first_named held a.cell.name pair_count 0 ≡ Some x.kept
    held_name x has same =
        ap (λ (n : List ℕ). first_named held n pair_count 0) (sym same)
        ∙ first_at held x p pair_count 0 (omega arith) (omega arith) (λ q above below. subst (λ (n : List ℕ). HasNot n (held q)) (sym same) (before q below)) has

    pub held_others : (x : Named) (name : List ℕ) → held p ≡ Some x → x.name ≡ a.cell.name → name ≢ a.cell.name → first_named held name pair_count 0 ≡ first_named was name pair_count 0
    held_others x name has same apart = first_same held was name pair_count 0 (λ q above below. elim (cases_eq q p) [
      | inl here ↦
          inr (
            not_under name (held q) x (ap held here ∙ has) (λ e. apart (sym e ∙ same)),
            subst (λ (r : ℕ). HasNot name (was r)) (sym here)
                (not_pending acks p (acks p) (was p) name (holding p low) (subst (λ o. HasNot name (name_option o)) (sym is) (λ e. apart (sym e)))
                (λ named free. absurd (let none : Some a ≡ None = sym is ∙ free in cc))),
          )
      | inr there ↦ inl (others q below there)
    ])

  -- the pair is the first free one
  module _ (is : acks p ≡ None) (first : IsFirstFree acks p) where
    new_elsewhere : (name : List ℕ) → IsNew acks name → (q : ℕ) → q < pair_count → q ≢ p → HasNot name (held q)
    new_elsewhere name new q below apart =
        subst (HasNot name) (sym (others q below apart))
        (not_pending acks q (acks q) (was q) name (holding q below) (new q below)
        (λ named free first_free new_too. absurd (elim (cases_lt q p) [
          | inl under ↦ let some : IsSome (acks q) = first q under in false≢true (subst IsSome free some)
          | inr over ↦ let under : p < q = omega arith in let some : IsSome (acks p) = first_free p under in false≢true (subst IsSome is some)
        ])))

    pub new_unknown : (name : List ℕ) → IsNew acks name → HasNot name (held p) → first_named held name pair_count 0 ≡ None
    new_unknown name new has = first_none held name pair_count 0 (λ q above below. elim (cases_eq q p) [
      | inl here ↦ subst (λ (r : ℕ). HasNot name (held r)) (sym here) has
      | inr there ↦ new_elsewhere name new q below there
    ])

    pub new_name : (x : Named) → IsNew acks x.name → held p ≡ Some x → first_named held x.name pair_count 0 ≡ Some x.kept
    new_name x new has = first_at held x p pair_count 0 (omega arith) (omega arith) (λ q above below. let apart : q ≢ p = omega arith in new_elsewhere x.name new q (omega arith) apart) has

    -- under a name that the pair doesn't hold there is what was there, or what is acknowledged
    pub free_others : (name : List ℕ) → HasNot name (held p)
        → (first_named held name pair_count 0 ≡ first_named was name pair_count 0) ⊎ (first_named held name pair_count 0 ≡ acknowledged acks name)
    free_others name has = by_held (holding p low)
      where
        same_where : HasNot name (was p) → first_named held name pair_count 0 ≡ first_named was name pair_count 0
        same_where had = first_same held was name pair_count 0 (λ q above below. elim (cases_eq q p) [
          | inl here ↦ inr (subst (λ (r : ℕ). HasNot name (held r)) (sym here) has, subst (λ (r : ℕ). HasNot name (was r)) (sym here) had)
          | inr there ↦ inl (others q below there)
        ])

        by_held : IsHeldAs acks p (acks p) (was p) → (first_named held name pair_count 0 ≡ first_named was name pair_count 0) ⊎ (first_named held name pair_count 0 ≡ acknowledged acks name)
        by_held (inl none) = inl (same_where (subst (HasNot name) (sym (none ∙ ap name_option is)) tt))
        by_held (inr late) = elim (same_bytes late.0.name name) [
          | inl same ↦
              let pending : Pending acks p None late.0 = subst (λ o. Pending acks p o late.0) is late.2 in
              let new : IsNew acks name = subst (IsNew acks) same pending.1 in
              inr (new_unknown name new has ∙ sym (first_none (λ q. name_option (acks q)) name pair_count 0 (λ q above below. new q below)))
          | inr apart ↦ inl (same_where (not_under name (was p) late.0 late.1 apart))
        ]
