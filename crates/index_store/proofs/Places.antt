-- Which cells a write to the state file leaves as they were.
use Rattle.std.proofs.Common.{◌≡◌, ◌≢◌, ◌⊎◌, inl, inr, ℕ, ◌+◌, ◌-◌, ◌<◌, ◌≤◌, min, Bool, false, ◌&&◌, ◌==◌, cond, List, ◌∷◌, ◌++◌, length, get_or, take, drop, slice_index, None, Some, refl, sym, ◌∙◌, ap, arith, replicate, length-append, length-take, take-append-drop}
use Rattle.std.proofs.lemmas.List.{take-take, drop-take, drop-drop, get_or-take, get_or-drop, drop_more, drop_at, take_at, append_assoc}
use Rattle.std.proofs.lemmas.Bool.{cases_lt}
use Rattle.std.proofs.lemmas.Bool.Decides.{nat_tests}
use Rattle.java_model.specs.StateFile.Cells.{counting, is_whole, cell_in, cell_bytes, cell_at}
use Rattle.jx_disk.specs.Disk.{TornWrite, written_over}

module _ (at n : ℕ) (old new : List ℕ) (fits : at + n ≤ length old) (torn : TornWrite at n old new) where
  pub length_torn : length new ≡ length old
  length_torn = omega (arith, torn.no_shorter, torn.no_longer)

  front : take at new ≡ take at old
  front = ap (λ (k : ℕ). take k new) (let e : at ≡ min at (length old) = omega arith in e) ∙ torn.before

  pub window_below : (k m : ℕ) → k + m ≤ at → take m (drop k new) ≡ take m (drop k old)
  window_below k m below =
      sym (drop-take k m new) ∙ ap (drop k) (sym (take-take (k + m) at new below) ∙ ap (take (k + m)) front ∙ take-take (k + m) at old below) ∙ drop-take k m old

  pub window_above : (k m : ℕ) → at + n ≤ k → take m (drop k new) ≡ take m (drop k old)
  window_above k m above = ap (take m) (from new ∙ ap (drop (k - (at + n))) torn.after ∙ sym (from old))
    where
      from : (l : List ℕ) → drop k l ≡ drop (k - (at + n)) (drop (at + n) l)
      from l = ap (λ (j : ℕ). drop j l) (let e : k ≡ (at + n) + (k - (at + n)) = omega arith in e) ∙ sym (drop-drop (k - (at + n)) (at + n) l)

  pub byte_below : (k : ℕ) → k < at → slice_index new k ≡ slice_index old k
  byte_below k below = sym (get_or-take at new k 0 below) ∙ ap (λ (l : List ℕ). get_or l k 0) front ∙ get_or-take at old k 0 below

-- a torn write within one cell leaves every other cell
pub other_cell : (pair side from n q t : ℕ) (old new : List ℕ) → length old ≡ 131072 → side < 2 → t < 2 → pair < 256
    → cell_at pair side ≤ from → from + n ≤ cell_at pair side + 256 → TornWrite from n old new
    → (q ≢ pair) ⊎ (t ≢ side) → cell_bytes q t new ≡ cell_bytes q t old
other_cell pair side from n q t old new long two binary fits low high torn apart = elim (cases_lt (cell_at q t) (cell_at pair side)) [
  | inl below ↦ window_below from n old new (omega arith) torn (cell_at q t) 256 (elim apart [ inl pairs ↦ omega arith | inr sides ↦ omega arith ])
  | inr above ↦ window_above from n old new (omega arith) torn (cell_at q t) 256 (elim apart [ inl pairs ↦ omega arith | inr sides ↦ omega arith ])
]

-- a cell counts only where its gate is open
pub closed_gate : (pair side : ℕ) (state : List ℕ) → slice_index state (cell_at pair side) ≢ 1 → counting (cell_bytes pair side state) ≡ None
unfolding counting
closed_gate pair side state closed =
    let gate : slice_index (cell_bytes pair side state) 0 ≡ slice_index state (cell_at pair side) =
    get_or-take 256 (drop (cell_at pair side) state) 0 0 (omega arith) ∙ get_or-drop (cell_at pair side) state 0 0 ∙ ap (λ (k : ℕ). get_or state k 0) (omega arith) in
    not_counted (cell_bytes pair side state) (λ is. closed (sym gate ∙ is))
  where
    shut_gate : (gate : ℕ) → gate ≢ 1 → (gate == 1) ≡ false
    shut_gate gate shut = grind (arith, nat_tests)

    not_counted : (bytes : List ℕ) → slice_index bytes 0 ≢ 1 → counting bytes ≡ None
    not_counted bytes shut = ap (λ (b : Bool). cond (b && is_whole bytes) (Some (cell_in bytes)) None) (shut_gate (slice_index bytes 0) shut)

-- what a torn write of one byte leaves is the same but for that byte
pub one_byte : (at : ℕ) (old new : List ℕ) → at < length old → TornWrite at 1 old new → slice_index new at ≡ slice_index old at → new ≡ old
one_byte at old new fits torn same =
    sym (take-append-drop at new) ∙ ap (λ (l : List ℕ). l ++ drop at new) (front at 1 old new (omega arith) torn)
    ∙ ap (λ (l : List ℕ). take at old ++ l) back ∙ take-append-drop at old
  where
    back : drop at new ≡ drop at old
    back =
        drop_more new at 0 (omega (arith, torn.no_shorter)) ∙ ap (λ (b : ℕ). b ∷ drop (at + 1) new) same ∙ ap (λ (l : List ℕ). get_or old at 0 ∷ l) torn.after
        ∙ sym (drop_more old at 0 fits)

-- a cell whose gate was opened over these bytes
pub opened_bytes : (at : ℕ) (piece old new : List ℕ) → length piece ≡ 255 → at + 256 ≤ length old → take 255 (drop (at + 1) old) ≡ piece → TornWrite at 1 old new → slice_index new at ≡ 1
    → take 256 (drop at new) ≡ 1 ∷ piece
opened_bytes at piece old new long fits is torn gate =
    ap (take 256) (drop_more new at 0 (omega (arith, torn.no_shorter)) ∙ ap (λ (b : ℕ). b ∷ drop (at + 1) new) gate)
    ∙ ap (λ (l : List ℕ). 1 ∷ take 255 l) torn.after ∙ ap (λ (l : List ℕ). 1 ∷ l) is

-- what a write has put behind a gate
pub written_bytes : (at : ℕ) (piece old : List ℕ) → at + length piece ≤ length old → take (length piece) (drop at (written_over 0 at piece old)) ≡ piece
written_bytes at piece old fits =
    let padded = old ++ replicate (at - length old) 0 in
    let long : length (take at padded) ≡ at = omega (arith, length-take at padded, length-append old (replicate (at - length old) 0)) in
    ap (λ (l : List ℕ). take (length piece) (drop at l)) (append_assoc (take at padded) piece (drop (at + length piece) old))
    ∙ ap (take (length piece)) (drop_at (take at padded) (piece ++ drop (at + length piece) old) at long)
    ∙ take_at piece (drop (at + length piece) old) (length piece) refl
