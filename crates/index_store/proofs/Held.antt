-- What the files say of a pair: what is acknowledged, or something pending.
use Rattle.std.proofs.Common.{◌≡◌, ◌⊎◌, inl, inr, ℕ, zero, suc, ◌+◌, ◌-◌, ◌<◌, ◌≤◌, Bool, true, false, cond, ltb, List, take, Option, None, Some, refl, sym, ◌∙◌, ap, subst, arith}
use Rattle.std.proofs.lemmas.Bool.Decides.{nat_tests}
use Rattle.java_model.specs.StateFile.Cells.{Cell, Side, counting, cell_bytes, newest, newest_in, pair_count}
use Rattle.java_model.specs.StateFile.Recovered.{Files, slot, named_by, held_by, held_in, is_ready, first_named, recovered}
use Rattle.index_store.specs.Kept.{Acked, Acks, named_of, Yields, Begins, HoldsAcked, IsFreeIn, FitsPair, Fits}
use Rattle.index_store.proofs.Holding.{IsHeldAs, Holding}

-- the newest of the cell on a side and of the other one
abbrev pub newest_of : ℕ → Option Cell → Option Cell → Option Side
newest_of zero this other = newest this other
newest_of (suc side) this other = newest other this

-- the acknowledged cell is the newest, or the other one, which is pending
pub newest_acked : (a : Acked) (side : ℕ) (other : Option Cell) → side ≡ a.side → side < 2 → Yields a other
    → (newest_of side (Some a.cell) other ≡ Some (record { side = side; cell = a.cell })) ⊎ ((cell : Cell) × (newest_of side (Some a.cell) other ≡ Some (record { side = 1 - side; cell = cell })) × (cell.name ≡ a.cell.name))
newest_acked a zero None is two yields = inl refl
newest_acked a (suc zero) None is two yields = inl refl
newest_acked a (suc (suc n)) other is two yields = absurd (omega arith)
newest_acked a zero (Some x) is two (inl loses) = inl (ap (λ (b : Bool). cond b (Some (record { side = 1; cell = x })) (Some (record { side = 0; cell = a.cell }))) (not_less a.cell.generation x.generation (omega arith)))
  where
    not_less : (m n : ℕ) → n ≤ m → ltb m n ≡ false
    not_less m n le = grind (arith, nat_tests)
newest_acked a zero (Some x) is two (inr later) = inr (x, ap (λ (b : Bool). cond b (Some (record { side = 1; cell = x })) (Some (record { side = 0; cell = a.cell }))) (less a.cell.generation x.generation (omega arith)), later.1)
  where
    less : (m n : ℕ) → m < n → ltb m n ≡ true
    less m n lt = grind (arith, nat_tests)
newest_acked a (suc zero) (Some x) is two (inl loses) = inl (ap (λ (b : Bool). cond b (Some (record { side = 1; cell = a.cell })) (Some (record { side = 0; cell = x }))) (less x.generation a.cell.generation (omega arith)))
  where
    less : (m n : ℕ) → m < n → ltb m n ≡ true
    less m n lt = grind (arith, nat_tests)
newest_acked a (suc zero) (Some x) is two (inr later) = inr (x, ap (λ (b : Bool). cond b (Some (record { side = 1; cell = a.cell })) (Some (record { side = 0; cell = x }))) (not_less x.generation a.cell.generation (omega arith)), later.1)
  where
    not_less : (m n : ℕ) → n ≤ m → ltb m n ≡ false
    not_less m n le = grind (arith, nat_tests)

-- the other cell doesn't count or is older
abbrev pub Loses : Acked → Option Cell → Type 0
Loses a None = Unit {0}
Loses a (Some cell) = cell.generation + a.side ≤ a.cell.generation

pub newest_wins : (a : Acked) (side : ℕ) (other : Option Cell) → side ≡ a.side → side < 2 → Loses a other → newest_of side (Some a.cell) other ≡ Some (record { side = side; cell = a.cell })
newest_wins a zero None is two loses = refl
newest_wins a (suc zero) None is two loses = refl
newest_wins a (suc (suc n)) other is two loses = absurd (omega arith)
newest_wins a zero (Some x) is two loses = ap (λ (b : Bool). cond b (Some (record { side = 1; cell = x })) (Some (record { side = 0; cell = a.cell }))) (not_less a.cell.generation x.generation (omega arith))
  where
    not_less : (m n : ℕ) → n ≤ m → ltb m n ≡ false
    not_less m n le = grind (arith, nat_tests)
newest_wins a (suc zero) (Some x) is two loses = ap (λ (b : Bool). cond b (Some (record { side = 1; cell = a.cell })) (Some (record { side = 0; cell = x }))) (less x.generation a.cell.generation (omega arith))
  where
    less : (m n : ℕ) → m < n → ltb m n ≡ true
    less m n lt = grind (arith, nat_tests)

module _ (files : Files) (pair : ℕ) where
  newest_at : (side : ℕ) → side < 2 → newest_in (files 1) pair ≡ newest_of side (counting (cell_bytes pair side (files 1))) (counting (cell_bytes pair (1 - side) (files 1)))
  newest_at zero two = refl
  newest_at (suc zero) two = refl
  newest_at (suc (suc n)) two = absurd (omega arith)

  -- where the cell on a side is the newest
  held_newest : (newest : Side) → newest_in (files 1) pair ≡ Some newest → held_in files pair ≡ Some (named_by files pair newest)
  held_newest newest is = ap (held_by files pair) is

  module _ (a : Acked) (holds : HoldsAcked files pair a) where
    newest_is : newest_in (files 1) pair ≡ newest_of a.side (Some a.cell) (counting (cell_bytes pair (1 - a.side) (files 1)))
    newest_is = newest_at a.side holds.two ∙ ap (λ (this : Option Cell). newest_of a.side this (counting (cell_bytes pair (1 - a.side) (files 1)))) holds.cell

    acked_held : newest_in (files 1) pair ≡ Some (record { side = a.side; cell = a.cell }) → held_in files pair ≡ Some (named_of a)
    acked_held is =
        held_newest (record { side = a.side; cell = a.cell }) is
        ∙ ap (λ (image : List ℕ). Some (record { name = a.cell.name; kept = record { rebuild = a.cell.rebuild; generation = a.cell.generation; size = a.cell.size; image = image } })) holds.image

    pub held_acked : (acks : Acks) → IsHeldAs acks pair (Some a) (held_in files pair)
    held_acked acks = elim (newest_acked a a.side (counting (cell_bytes pair (1 - a.side) (files 1))) refl holds.two holds.other) [
      | inl here ↦ inl (acked_held (newest_is ∙ here))
      | inr late ↦
          let later : Side = record { side = 1 - a.side; cell = late.0 } in
          inr ((named_by files pair later, held_newest later (newest_is ∙ late.1), late.2))
    ]

    -- with the other cell's gate closed
    pub held_closed : counting (cell_bytes pair (1 - a.side) (files 1)) ≡ None → held_in files pair ≡ Some (named_of a)
    held_closed none = acked_held (newest_is ∙ ap (newest_of a.side (Some a.cell)) none ∙ alone a.side holds.two)
      where
        alone : (side : ℕ) → side < 2 → newest_of side (Some a.cell) None ≡ Some (record { side = side; cell = a.cell })
        alone zero two = refl
        alone (suc zero) two = refl
        alone (suc (suc n)) two = absurd (omega arith)

  -- where the other cell is older
  pub held_winner : (a : Acked) → a.side < 2 → counting (cell_bytes pair a.side (files 1)) ≡ Some a.cell → take a.cell.size (files (slot pair a.side)) ≡ a.image
      → Loses a (counting (cell_bytes pair (1 - a.side) (files 1))) → held_in files pair ≡ Some (named_of a)
  held_winner a two is image loses =
      held_newest (record { side = a.side; cell = a.cell })
      (newest_at a.side two ∙ ap (λ (this : Option Cell). newest_of a.side this (counting (cell_bytes pair (1 - a.side) (files 1)))) is ∙ newest_wins a a.side (counting (cell_bytes pair (1 - a.side) (files 1))) refl two loses)
      ∙ ap (λ (bytes : List ℕ). Some (record { name = a.cell.name; kept = record { rebuild = a.cell.rebuild; generation = a.cell.generation; size = a.cell.size; image = bytes } })) image

  begun : (acks : Acks) (first : Option Cell) → Begins acks pair first → IsHeldAs acks pair None (held_by files pair (newest first None))
  begun acks None begins = inl refl
  begun acks (Some cell) begins =
      let newest : Side = record { side = 0; cell = cell } in
      inr ((named_by files pair newest, refl, (begins.0, begins.2)))

  pub held_free : (acks : Acks) → IsFreeIn files acks pair → IsHeldAs acks pair None (held_in files pair)
  held_free acks free =
      subst (λ (second : Option Cell). IsHeldAs acks pair None (held_by files pair (newest (counting (cell_bytes pair 0 (files 1))) second))) (sym free.second)
      (begun acks (counting (cell_bytes pair 0 (files 1))) free.first)

  pub held_none : counting (cell_bytes pair 0 (files 1)) ≡ None → counting (cell_bytes pair 1 (files 1)) ≡ None → held_in files pair ≡ None
  held_none first second = ap (λ (c : Option Cell). held_by files pair (newest c (counting (cell_bytes pair 1 (files 1))))) first ∙ ap (λ (c : Option Cell). held_by files pair (newest None c)) second

pub held_as : (acks : Acks) (files : Files) (pair : ℕ) (acked : Option Acked) → FitsPair files acks pair acked → IsHeldAs acks pair acked (held_in files pair)
held_as acks files pair None fits = held_free files pair acks fits
held_as acks files pair (Some a) fits = held_acked files pair a fits acks

pub holding : (acks : Acks) (files : Files) → Fits acks files → Holding acks (held_in files)
holding acks files fits pair low = held_as acks files pair (acks pair) (fits.pairs pair low)

pub recovered_ready : (files : Files) (name : List ℕ) → is_ready files ≡ true → recovered files name ≡ first_named (held_in files) name pair_count 0
recovered_ready files name ready = ap (λ (b : Bool). cond b (first_named (held_in files) name pair_count 0) None) ready
