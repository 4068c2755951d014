-- What a write leaves at each place of a file, and that a whole write and a whole cut are among those that are torn.
use Rattle.std.proofs.Common.{◌≡◌, ◌≢◌, inl, inr, ℕ, ◌+◌, ◌-◌, ◌<◌, ◌≤◌, min, max, List, ◌++◌, length, get_or, take, drop, replicate, unwrap_or, Option, None, Some, refl, sym, ◌∙◌, ap, subst, arith, length-append, length-take, length-drop}
use Rattle.std.proofs.lemmas.List.{length-replicate, take_all, take-take, drop_at, take-append-le, get_or-append_right, get_or_append_left, get_or-take, get_or-drop, get_or-replicate, append_assoc}
use Rattle.std.proofs.lemmas.Bool.{cases_lt}
use Rattle.std.proofs.lemmas.Bool.Decides.{nat_tests}
use Rattle.jx_disk.specs.Disk.{written_over, TornWrite, TornCut}
use Rattle.jx_disk.specs.Calls.{painted, file_after, Written, Shortened}

module _ (fill at : ℕ) (piece bytes : List ℕ) where
  padded : List ℕ
  padded = bytes ++ replicate (at - length bytes) fill

  length-padded : length padded ≡ max (length bytes) at
  unfolding padded
  length-padded = omega (arith, length-append bytes (replicate (at - length bytes) fill), length-replicate (at - length bytes) fill)

  length-front : length (take at padded) ≡ at
  length-front = omega (arith, length-take at padded, length-padded)

  same : written_over fill at piece bytes ≡ take at padded ++ (piece ++ drop (at + length piece) bytes)
  unfolding padded
  same = append_assoc (take at padded) piece (drop (at + length piece) bytes)

  pub length-written_over : length (written_over fill at piece bytes) ≡ max (length bytes) (at + length piece)
  length-written_over =
      omega (
        arith,
        ap length same,
        length-front,
        length-append (take at padded) (piece ++ drop (at + length piece) bytes),
        length-append piece (drop (at + length piece) bytes),
        length-drop (at + length piece) bytes,
      )

  -- below the piece stands what stood there
  pub written_below : (k : ℕ) → k < at → k < length bytes → get_or (written_over fill at piece bytes) k 0 ≡ get_or bytes k 0
  unfolding padded
  written_below k low inside =
      ap (λ (l : List ℕ). get_or l k 0) same
      ∙ get_or_append_left (take at padded) (piece ++ drop (at + length piece) bytes) 0 k (omega (arith, length-front))
      ∙ get_or-take at padded k 0 low
      ∙ get_or_append_left bytes (replicate (at - length bytes) fill) 0 k inside

  -- or the filling byte, past the file's end
  pub written_gap : (k : ℕ) → k < at → length bytes ≤ k → get_or (written_over fill at piece bytes) k 0 ≡ fill
  unfolding padded
  written_gap k low past =
      ap (λ (l : List ℕ). get_or l k 0) same
      ∙ get_or_append_left (take at padded) (piece ++ drop (at + length piece) bytes) 0 k (omega (arith, length-front))
      ∙ get_or-take at padded k 0 low
      ∙ get_or-append_right bytes (replicate (at - length bytes) fill) (length bytes) k 0 refl past
      ∙ get_or-replicate (at - length bytes) (k - length bytes) fill 0 (omega arith)

  pub written_inside : (k : ℕ) → at ≤ k → k < at + length piece → get_or (written_over fill at piece bytes) k 0 ≡ get_or piece (k - at) 0
  written_inside k low high =
      ap (λ (l : List ℕ). get_or l k 0) same
      ∙ get_or-append_right (take at padded) (piece ++ drop (at + length piece) bytes) at k 0 length-front low
      ∙ get_or_append_left piece (drop (at + length piece) bytes) 0 (k - at) (omega arith)

  pub written_above : (k : ℕ) → at + length piece ≤ k → get_or (written_over fill at piece bytes) k 0 ≡ get_or bytes k 0
  written_above k high =
      ap (λ (l : List ℕ). get_or l k 0) same
      ∙ get_or-append_right (take at padded) (piece ++ drop (at + length piece) bytes) at k 0 length-front (omega arith)
      ∙ get_or-append_right piece (drop (at + length piece) bytes) (length piece) (k - at) 0 refl (omega arith)
      ∙ get_or-drop (at + length piece) bytes (k - at - length piece) 0
      ∙ ap (λ (i : ℕ). get_or bytes i 0) (omega arith)

  front_kept : take (min at (length bytes)) (written_over fill at piece bytes) ≡ take at bytes
  unfolding padded
  front_kept =
      ap (take (min at (length bytes))) same
      ∙ take-append-le (min at (length bytes)) (take at padded) (piece ++ drop (at + length piece) bytes) (omega (arith, length-front))
      ∙ take-take (min at (length bytes)) at padded (omega arith)
      ∙ take-append-le (min at (length bytes)) bytes (replicate (at - length bytes) fill) (omega arith)
      ∙ short
    where
      short : take (min at (length bytes)) bytes ≡ take at bytes
      short = elim (cases_lt (length bytes) at) [
        | inr le ↦ ap (λ (n : ℕ). take n bytes) (let e : min at (length bytes) ≡ at = omega arith in e)
        | inl gt ↦ take_all (min at (length bytes)) bytes (omega arith) ∙ sym (take_all at bytes (omega arith))
      ]

  back_kept : drop (at + length piece) (written_over fill at piece bytes) ≡ drop (at + length piece) bytes
  unfolding padded
  back_kept =
      drop_at (take at padded ++ piece) (drop (at + length piece) bytes) (at + length piece)
      (length-append (take at padded) piece ∙ ap (λ (n : ℕ). n + length piece) length-front)

  pub torn_whole : TornWrite at (length piece) bytes (written_over fill at piece bytes)
  torn_whole = record {
    before = front_kept;
    after = back_kept;
    no_shorter = omega (arith, length-written_over);
    no_longer = omega (arith, length-written_over);
  }

pub length-painted : (fill : Option ℕ) (piece : List ℕ) → length (painted fill piece) ≡ length piece
length-painted None piece = refl
length-painted (Some byte) piece = length-replicate (length piece) byte

-- so is one that writes the filling byte alone
pub torn_painted : (gap : ℕ) (fill : Option ℕ) (at : ℕ) (piece bytes : List ℕ)
    → TornWrite at (length piece) bytes (written_over gap at (painted fill piece) bytes)
torn_painted gap fill at piece bytes =
    subst (λ (n : ℕ). TornWrite at n bytes (written_over gap at (painted fill piece) bytes)) (length-painted fill piece)
    (torn_whole gap at (painted fill piece) bytes)

pub torn_cut : (n : ℕ) (bytes : List ℕ) → TornCut n bytes (take n bytes)
torn_cut n bytes = record { spared = take-take n n bytes (omega arith); no_longer = omega (arith, length-take n bytes) }

pub torn_nothing : (at n : ℕ) (bytes : List ℕ) → TornWrite at n bytes bytes
torn_nothing at n bytes = record { before = short; after = refl; no_shorter = omega arith; no_longer = omega arith }
  where
    short : take (min at (length bytes)) bytes ≡ take at bytes
    short = elim (cases_lt (length bytes) at) [
      | inr le ↦ ap (λ (k : ℕ). take k bytes) (let e : min at (length bytes) ≡ at = omega arith in e)
      | inl gt ↦ take_all (min at (length bytes)) bytes (omega arith) ∙ sym (take_all at bytes (omega arith))
    ]

-- a call at the file that it names, and at another
pub written_here : (fill : Option ℕ) (file other at : ℕ) (piece bytes : List ℕ) → file ≡ other
    → file_after fill (Written other at piece) file bytes ≡ written_over (unwrap_or fill 0) at (painted fill piece) bytes
written_here fill file other at piece bytes is = grind (arith, nat_tests)

pub written_elsewhere : (fill : Option ℕ) (file other at : ℕ) (piece bytes : List ℕ) → file ≢ other
    → file_after fill (Written other at piece) file bytes ≡ bytes
written_elsewhere fill file other at piece bytes apart = grind (arith, nat_tests)

pub shortened_here : (fill : Option ℕ) (file other len : ℕ) (bytes : List ℕ) → file ≡ other
    → file_after fill (Shortened other len) file bytes ≡ take len bytes
shortened_here fill file other len bytes is = grind (arith, nat_tests)

pub shortened_elsewhere : (fill : Option ℕ) (file other len : ℕ) (bytes : List ℕ) → file ≢ other
    → file_after fill (Shortened other len) file bytes ≡ bytes
shortened_elsewhere fill file other len bytes apart = grind (arith, nat_tests)
