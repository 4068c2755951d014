-- What the files recover of each container while a cell is written, and once its gate is open.
use Rattle.std.proofs.Common.{◌≡◌, ◌≢◌, ◌⊎◌, inl, inr, ⊎_elim, ℕ, ◌-◌, ◌<◌, List, Option, None, Some, true, refl, sym, ◌∙◌, ap, subst, arith}
use Rattle.java_model.specs.StateFile.Cells.{Cell, counting, cell_bytes, pair_count}
use Rattle.java_model.specs.StateFile.Recovered.{Files, held_in, is_ready, first_named, recovered}
use Rattle.jx_disk.specs.Disk.{SameFiles}
use Rattle.index_store.specs.Kept.{Acked, acked_as, Acks, kept_of, named_of, name_option, acknowledged, HasNot, FitsPair, Fits, Targets, Recovers}
use Rattle.index_store.proofs.Places.{closed_gate}
use Rattle.index_store.proofs.Names.{same_bytes}
use Rattle.index_store.proofs.Holding.{acked_name, held_name, held_others, new_name, free_others}
use Rattle.index_store.proofs.Held.{Loses, held_closed, held_winner, held_none, holding, recovered_ready}
use Rattle.index_store.proofs.Staged.{Staged, Opened, AllBut, alike_held}

module _ (pair side : ℕ) (low : pair < pair_count) (two : side < 2) (acks : Acks) (outcomes : Files → Type 0) (cell : Cell) (image : List ℕ) (was new : Files) (outcome : outcomes was) (fits : Fits acks was) where
  elsewhere : AllBut pair was new → (q : ℕ) → q < pair_count → q ≢ pair → held_in new q ≡ held_in was q
  elsewhere near q below apart = alike_held was new q (near.others q below apart)

  as_before : (name : List ℕ) → is_ready new ≡ true → first_named (held_in new) name pair_count 0 ≡ first_named (held_in was) name pair_count 0 → recovered new name ≡ recovered was name
  as_before name ready same = recovered_ready new name ready ∙ same ∙ sym (recovered_ready was name fits.ready)

  staged_pair : (before : Option Acked) → acks pair ≡ before → Targets acks pair side cell before → Staged pair side low two acks was new → FitsPair new acks pair before → Recovers acks outcomes cell.name (kept_of (acked_as side cell image)) new
  staged_pair (Some a) is target staged here name =
      let shut : counting (cell_bytes pair (1 - a.side) (new 1)) ≡ None = subst (λ (t : ℕ). counting (cell_bytes pair t (new 1)) ≡ None) target.side_is (closed_gate pair side (new 1) staged.closed) in
      let held = held_closed new pair a here shut in
      let first = λ (q : ℕ) (below : q < pair). subst (λ (n : List ℕ). HasNot n (name_option (acks q))) target.name_is (target.first q below) in
      elim (same_bytes name a.cell.name) [
        | inl same ↦
            inl (
            recovered_ready new name staged.fits.ready ∙ ap (λ (n : List ℕ). first_named (held_in new) n pair_count 0) same
            ∙ held_name acks pair low (held_in new) (held_in was) (elsewhere staged.near) (holding acks was fits) a is first (named_of a) held refl
            ∙ sym (ap (acknowledged acks) same ∙ acked_name acks pair low (held_in new) (held_in was) (elsewhere staged.near) (holding acks was fits) a is first)
            )
        | inr apart ↦
            inr (inl ((was, outcome, as_before name staged.fits.ready (held_others acks pair low (held_in new) (held_in was) (elsewhere staged.near) (holding acks was fits) a is first (named_of a) name held refl apart))))
      ]
  staged_pair None is target staged here name =
      let shut : counting (cell_bytes pair 0 (new 1)) ≡ None = subst (λ (t : ℕ). counting (cell_bytes pair t (new 1)) ≡ None) target.side_is (closed_gate pair side (new 1) staged.closed) in
      let held = held_none new pair shut here.second in
      ⊎_elim
      (λ same. inr (inl ((was, outcome, as_before name staged.fits.ready same))))
      (λ known. inl (recovered_ready new name staged.fits.ready ∙ known))
      (free_others acks pair low (held_in new) (held_in was) (elsewhere staged.near) (holding acks was fits) is target.first name (subst (HasNot name) (sym held) tt))

  pub staged_recovers : Targets acks pair side cell (acks pair) → Staged pair side low two acks was new → Recovers acks outcomes cell.name (kept_of (acked_as side cell image)) new
  staged_recovers target staged = staged_pair (acks pair) refl target staged (staged.fits.pairs pair low)

  older : (before : Option Acked) → Targets acks pair side cell before → FitsPair new acks pair before → Loses (acked_as side cell image) (counting (cell_bytes pair (1 - side) (new 1)))
  older None target here = subst (λ c. Loses (acked_as side cell image) c) (sym (ap (λ (t : ℕ). counting (cell_bytes pair t (new 1))) (let e : 1 - side ≡ 1 = omega (arith, target.side_is) in e) ∙ here.second)) tt
  older (Some a) target here =
      subst (λ c. Loses (acked_as side cell image) c)
      (sym (ap (λ (t : ℕ). counting (cell_bytes pair t (new 1))) (let e : 1 - side ≡ a.side = omega (arith, target.side_is, target.two) in e) ∙ here.cell)) (omega (arith, target.next))

  pub opened_held : Targets acks pair side cell (acks pair) → Opened pair side low two acks cell image was new → held_in new pair ≡ Some (named_of (acked_as side cell image))
  opened_held target opened = held_winner new pair (acked_as side cell image) two opened.cell_is opened.image_is (older (acks pair) target (opened.fits.pairs pair low))

  named_pair : (before : Option Acked) → acks pair ≡ before → Targets acks pair side cell before → is_ready new ≡ true → AllBut pair was new → held_in new pair ≡ Some (named_of (acked_as side cell image))
      → recovered new cell.name ≡ Some (kept_of (acked_as side cell image))
  named_pair (Some a) is target ready near held =
      let first = λ (q : ℕ) (below : q < pair). subst (λ (n : List ℕ). HasNot n (name_option (acks q))) target.name_is (target.first q below) in
      recovered_ready new cell.name ready ∙ ap (λ (n : List ℕ). first_named (held_in new) n pair_count 0) target.name_is
      ∙ held_name acks pair low (held_in new) (held_in was) (elsewhere near) (holding acks was fits) a is first (named_of (acked_as side cell image)) held target.name_is
  named_pair None is target ready near held =
      recovered_ready new cell.name ready
      ∙ new_name acks pair low (held_in new) (held_in was) (elsewhere near) (holding acks was fits) is target.first (named_of (acked_as side cell image)) target.new held

  opened_pair : (before : Option Acked) → acks pair ≡ before → Targets acks pair side cell before → is_ready new ≡ true → AllBut pair was new → held_in new pair ≡ Some (named_of (acked_as side cell image))
      → (name : List ℕ) → ((name ≡ cell.name) × (recovered new name ≡ Some (kept_of (acked_as side cell image)))) ⊎ ((recovered new name ≡ recovered was name) ⊎ (recovered new name ≡ acknowledged acks name))
  opened_pair (Some a) is target ready near held name =
      let first = λ (q : ℕ) (below : q < pair). subst (λ (n : List ℕ). HasNot n (name_option (acks q))) target.name_is (target.first q below) in
      elim (same_bytes name cell.name) [
        | inl same ↦ inl (same, ap (recovered new) same ∙ named_pair (Some a) is target ready near held)
        | inr apart ↦
            inr (inl (as_before name ready (held_others acks pair low (held_in new) (held_in was) (elsewhere near) (holding acks was fits) a is first (named_of (acked_as side cell image)) name held target.name_is (λ e. apart (e ∙ sym target.name_is)))))
      ]
  opened_pair None is target ready near held name = elim (same_bytes name cell.name) [
    | inl same ↦ inl (same, ap (recovered new) same ∙ named_pair None is target ready near held)
    | inr apart ↦
        inr (⊎_elim
        (λ same. inl (as_before name ready same))
        (λ known. inr (recovered_ready new name ready ∙ known))
        (free_others acks pair low (held_in new) (held_in was) (elsewhere near) (holding acks was fits) is target.first name (subst (HasNot name) (sym held) (λ e. apart (sym e)))))
  ]

  pub opened_named : Targets acks pair side cell (acks pair) → Opened pair side low two acks cell image was new → recovered new cell.name ≡ Some (kept_of (acked_as side cell image))
  opened_named target opened = named_pair (acks pair) refl target opened.ready opened.near (opened_held target opened)

  pub opened_recovers : Targets acks pair side cell (acks pair) → Opened pair side low two acks cell image was new → Recovers acks outcomes cell.name (kept_of (acked_as side cell image)) new
  opened_recovers target opened name =
      ⊎_elim
      (λ now. inr (inr now))
      (λ past. ⊎_elim (λ same. inr (inl ((was, outcome, same)))) (λ known. inl known) past)
      (opened_pair (acks pair) refl target opened.ready opened.near (opened_held target opened) name)

  -- an earlier outcome itself
  pub same_recovers : SameFiles was new → Recovers acks outcomes cell.name (kept_of (acked_as side cell image)) new
  same_recovers same name = let is : new ≡ was = λ i. λ file. same file i in inr (inl ((was, outcome, ap (λ (f : Files). recovered f name) is)))
