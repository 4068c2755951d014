-- The parts of a save one after another: what a crash since its start may leave.
use Rattle.std.proofs.Common.{◌≡◌, ◌≢◌, ◌⊎◌, ⊎_elim, ℕ, ◌+◌, ◌-◌, ◌<◌, ◌≤◌, List, [], ◌∷◌, length, take, drop, slice_index, Some, sym, ◌∙◌, ap, subst, arith}
use Rattle.std.proofs.lemmas.List.{take_all}
use Rattle.java_model.specs.StateFile.Cells.{Cell, counting, cell_at, pair_count}
use Rattle.java_model.specs.StateFile.Recovered.{slot}
use Rattle.jx_disk.specs.Disk.{Image, SameFiles, TornWrite, ChangesFile, Only, LeavesOnly, written_over}
use Rattle.jx_disk.specs.Steps.{written_inside}
use Rattle.jx_disk.proofs.Moments.{and_then, widened}
use Rattle.index_states.specs.Parts.{After, ClosesGate, ChangesByte, ChangesOnly}
use Rattle.index_store.specs.Kept.{acked_as, Acks, kept_of, Fits, AllFit, AllSaved, Targets, Recovers}
use Rattle.index_store.proofs.Places.{written_bytes}
use Rattle.index_store.proofs.Staged.{Staged, Opened, ready_length, after_close, after_slot, after_cell, after_open, opened_fits, all_but_same}
use Rattle.index_store.proofs.Outcomes.{staged_recovers, opened_recovers, opened_named, same_recovers}

module _ {D : Type 0} (moment : D → ℕ) (left_since : D → ℕ → Image → Type 0) (may_leave : D → Image → Type 0) (seen : D → Image)
    (counts_now : (disk : D) (t : ℕ) (image : Image) → t ≤ moment disk → may_leave disk image → left_since disk t image) (seen_may_stay : (disk : D) → may_leave disk (seen disk))
    (pair side : ℕ) (low : pair < pair_count) (two : side < 2) (acks : Acks) (cell : Cell) (image bytes : List ℕ) (first : D) (fit : AllFit acks (may_leave first)) (target : Targets acks pair side cell (acks pair)) where
  -- an outcome after a run is one since its start
  after_run : (old new : D) (P : Image → Type 0) → LeavesOnly moment left_since old new P → (c : Image) → may_leave new c → P c
  after_run old new P run c left = run.each c (counts_now new (moment old) c run.later left)

  -- each outcome is a stage of an outcome at the start
  abbrev pub AllStaged : D → Type 0
  AllStaged disk = (c : Image) → may_leave disk c → (was : Image) × may_leave first was × Staged pair side low two acks was c

  recovers_staged : (c : Image) → ((was : Image) × may_leave first was × Staged pair side low two acks was c) → Recovers acks (may_leave first) cell.name (kept_of (acked_as side cell image)) c
  recovers_staged c staged = staged_recovers pair side low two acks (may_leave first) cell image staged.0 c staged.1 (fit staged.0 staged.1) target staged.2

  -- while the gate is closed
  closing : (c : Image) → After (may_leave first) (ClosesGate (cell_at pair side)) c
      → ((was : Image) × may_leave first was × (SameFiles was c ⊎ Staged pair side low two acks was c))
  closing c late = (late.0, late.1, after_close pair side low two acks cell late.0 c target (fit late.0 late.1) late.2)

  pub close_recovers : (new : D) → LeavesOnly moment left_since first new (After (may_leave first) (ClosesGate (cell_at pair side))) → LeavesOnly moment left_since first new (Recovers acks (may_leave first) cell.name (kept_of (acked_as side cell image)))
  close_recovers new run = widened moment left_since first new _ (Recovers acks (may_leave first) cell.name (kept_of (acked_as side cell image))) run (λ c late.
      let stage = closing c late in
      ⊎_elim (λ same. same_recovers pair side low two acks (may_leave first) cell image stage.0 c stage.1 (fit stage.0 stage.1) same) (λ staged. recovers_staged c (stage.0, stage.1, staged)) stage.2)

  pub close_fits : (new : D) → LeavesOnly moment left_since first new (After (may_leave first) (ClosesGate (cell_at pair side))) → AllFit acks (may_leave new)
  close_fits new run c left =
      let stage = closing c (after_run first new _ run c left) in
      ⊎_elim (λ same. let is : c ≡ stage.0 = λ i. λ file. same file i in subst (Fits acks) (sym is) (fit stage.0 stage.1)) (λ staged. staged.fits) stage.2

  pub close_staged : (new : D) → LeavesOnly moment left_since first new (After (may_leave first) (ClosesGate (cell_at pair side)))
      → slice_index (seen new 1) (cell_at pair side) ≢ 1 → Only (seen new) (may_leave new) → AllStaged new
  close_staged new run shut stable c left =
      let stage = closing c (after_run first new _ run c left) in
      let closed : slice_index (c 1) (cell_at pair side) ≢ 1 = λ e. shut (ap (λ (l : List ℕ). slice_index l (cell_at pair side)) (sym (stable c left 1)) ∙ e) in (
        stage.0,
        stage.1,
        ⊎_elim
            (λ same. let is : c ≡ stage.0 = λ i. λ file. same file i in record { fits = subst (Fits acks) (sym is) (fit stage.0 stage.1); closed = closed; near = all_but_same pair stage.0 c same })
            (λ staged. staged) stage.2,
      )

  -- while the slot is written, or the bytes behind the gate
  slot_stage : (old : D) → AllStaged old → (c : Image) → After (may_leave old) (ChangesOnly (slot pair side)) c → (was : Image) × may_leave first was × Staged pair side low two acks was c
  slot_stage old staged c late = let s = staged late.0 late.1 in (s.0, s.1, after_slot pair side low two acks cell s.0 late.0 c target s.2 late.2)

  cell_stage : (old : D) → AllStaged old → (c : Image) → After (may_leave old) (ChangesFile 1 (TornWrite (cell_at pair side + 1) 255)) c → (was : Image) × may_leave first was × Staged pair side low two acks was c
  cell_stage old staged c late = let s = staged late.0 late.1 in (s.0, s.1, after_cell pair side low two acks cell s.0 late.0 c target s.2 late.2)

  pub staged_fit : (disk : D) → AllStaged disk → AllFit acks (may_leave disk)
  staged_fit disk staged c left = (staged c left).2.fits

  pub slot_staged : (old new : D) → AllStaged old → LeavesOnly moment left_since old new (After (may_leave old) (ChangesOnly (slot pair side))) → AllStaged new
  slot_staged old new staged run c left = slot_stage old staged c (after_run old new _ run c left)

  pub cell_staged : (old new : D) → AllStaged old → LeavesOnly moment left_since old new (After (may_leave old) (ChangesFile 1 (TornWrite (cell_at pair side + 1) 255))) → AllStaged new
  cell_staged old new staged run c left = cell_stage old staged c (after_run old new _ run c left)

  pub slot_recovers : (old new : D) → AllStaged old → LeavesOnly moment left_since first old (Recovers acks (may_leave first) cell.name (kept_of (acked_as side cell image)))
      → LeavesOnly moment left_since old new (After (may_leave old) (ChangesOnly (slot pair side))) → LeavesOnly moment left_since first new (Recovers acks (may_leave first) cell.name (kept_of (acked_as side cell image)))
  slot_recovers old new staged so_far run = and_then moment left_since first old new _ _ so_far run (λ c late. recovers_staged c (slot_stage old staged c late))

  pub cell_recovers : (old new : D) → AllStaged old → LeavesOnly moment left_since first old (Recovers acks (may_leave first) cell.name (kept_of (acked_as side cell image)))
      → LeavesOnly moment left_since old new (After (may_leave old) (ChangesFile 1 (TornWrite (cell_at pair side + 1) 255))) → LeavesOnly moment left_since first new (Recovers acks (may_leave first) cell.name (kept_of (acked_as side cell image)))
  cell_recovers old new staged so_far run = and_then moment left_since first old new _ _ so_far run (λ c late. recovers_staged c (cell_stage old staged c late))

  -- what stands behind the gate, and in the slot
  pub behind_written : (old new : D) → AllStaged old → length bytes ≡ 255 → seen new 1 ≡ written_over 0 (cell_at pair side + 1) bytes (seen old 1)
      → take 255 (drop (cell_at pair side + 1) (seen new 1)) ≡ bytes
  behind_written old new staged long written =
      let state : length (seen old 1) ≡ 131072 = ready_length pair side low two (seen old) (staged (seen old) (seen_may_stay old)).2.fits.ready in
      ap (λ (l : List ℕ). take 255 (drop (cell_at pair side + 1) l)) written ∙ ap (λ (n : ℕ). take n (drop (cell_at pair side + 1) (written_over 0 (cell_at pair side + 1) bytes (seen old 1)))) (sym long)
      ∙ written_bytes (cell_at pair side + 1) bytes (seen old 1) (omega arith)

  pub stored_kept : (old new : D) → cell.size ≡ length image → seen old (slot pair side) ≡ image → ChangesFile 1 (TornWrite (cell_at pair side + 1) 255) (seen old) (seen new)
      → take cell.size (seen new (slot pair side)) ≡ image
  stored_kept old new sized written change =
      let apart : slot pair side ≢ 1 = omega arith in
      ap (take cell.size) (change.others (slot pair side) apart ∙ written) ∙ take_all cell.size image (omega arith)

  -- while the gate is opened over stable bytes
  module _ (long : length bytes ≡ 255) (spelled : counting (1 ∷ bytes) ≡ Some cell) (old : D) (staged : AllStaged old) (stable : Only (seen old) (may_leave old))
      (behind : take 255 (drop (cell_at pair side + 1) (seen old 1)) ≡ bytes) (stored : take cell.size (seen old (slot pair side)) ≡ image) where
    open_stage : (c : Image) → After (may_leave old) (ChangesByte (cell_at pair side)) c
        → (was : Image) × may_leave first was × (Staged pair side low two acks was c ⊎ Opened pair side low two acks cell image was c)
    open_stage c late =
        let s = staged late.0 late.1 in
        let same = stable late.0 late.1 in (
          s.0,
          s.1,
          after_open pair side low two acks cell image bytes target long spelled s.0 late.0 c s.2
              (ap (λ (l : List ℕ). take 255 (drop (cell_at pair side + 1) l)) (same 1) ∙ behind) (ap (take cell.size) (same (slot pair side)) ∙ stored) late.2,
        )

    pub open_recovers : (new : D) → LeavesOnly moment left_since first old (Recovers acks (may_leave first) cell.name (kept_of (acked_as side cell image)))
        → LeavesOnly moment left_since old new (After (may_leave old) (ChangesByte (cell_at pair side))) → LeavesOnly moment left_since first new (Recovers acks (may_leave first) cell.name (kept_of (acked_as side cell image)))
    open_recovers new so_far run = and_then moment left_since first old new _ _ so_far run (λ c late.
        let s = open_stage c late in
        ⊎_elim (λ closed. recovers_staged c (s.0, s.1, closed)) (λ opened. opened_recovers pair side low two acks (may_leave first) cell image s.0 c s.1 (fit s.0 s.1) target opened) s.2)

    pub open_fits : (new : D) → LeavesOnly moment left_since old new (After (may_leave old) (ChangesByte (cell_at pair side))) → AllFit acks (may_leave new)
    open_fits new run c left = let s = open_stage c (after_run old new _ run c left) in ⊎_elim (λ closed. closed.fits) (λ opened. opened.fits) s.2

    -- with the gate open on the disk too, the new cell is what is acknowledged
    opened_stage : (new : D) → LeavesOnly moment left_since old new (After (may_leave old) (ChangesByte (cell_at pair side))) → seen new 1 ≡ written_over 0 (cell_at pair side) (1 ∷ []) (seen old 1)
        → Only (seen new) (may_leave new) → (c : Image) → may_leave new c → (was : Image) × may_leave first was × Opened pair side low two acks cell image was c
    opened_stage new run written kept c left =
        let s = open_stage c (after_run old new _ run c left) in
        let gate : slice_index (c 1) (cell_at pair side) ≡ 1 =
        ap (λ (l : List ℕ). slice_index l (cell_at pair side)) (kept c left 1 ∙ written)
        ∙ written_inside 0 (cell_at pair side) (1 ∷ []) (seen old 1) (cell_at pair side) (omega arith) (omega arith) ∙ ap (λ (k : ℕ). slice_index (1 ∷ []) k) (let e : cell_at pair side - cell_at pair side ≡ 0 = omega arith in e) in
        (s.0, s.1, ⊎_elim (λ closed. absurd (closed.closed gate)) (λ opened. opened) s.2)

    pub opened_all : (new : D) → LeavesOnly moment left_since old new (After (may_leave old) (ChangesByte (cell_at pair side))) → seen new 1 ≡ written_over 0 (cell_at pair side) (1 ∷ []) (seen old 1)
        → Only (seen new) (may_leave new) → AllSaved acks pair (acked_as side cell image) (may_leave new)
    opened_all new run written kept = (
      λ c left. let s = opened_stage new run written kept c left in opened_fits pair side low two acks cell image bytes target long spelled s.0 c s.2,
      λ c left.
          let s = opened_stage new run written kept c left in
          opened_named pair side low two acks (may_leave first) cell image s.0 c s.1 (fit s.0 s.1) target s.2,
    )
