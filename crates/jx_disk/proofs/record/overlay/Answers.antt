use Rattle.std.proofs.Common.{◌≡◌, ◌≢◌, inl, inr, ℕ, ◌+◌, ◌-◌, ◌^◌, ◌<◌, min, max, List, length, set, slice_index, unwrap_or, Option, sym, ap, ◌∙◌, arith}
use Rattle.std.proofs.lemmas.List.{length-set, get_or-set_same, get_or-set_other}
use Rattle.std.proofs.lemmas.Bool.{cases_eq}
use Rattle.jx_disk.specs.Disk.{written_over}
use Rattle.jx_disk.specs.Calls.{painted}
use Rattle.jx_disk.specs.Told.{Shows}
use Rattle.jx_disk.specs.Steps.{length-written_over, length-painted}
use Rattle.jx_disk.proofs.record.overlay.Invariants.{Overlaid}
use Rattle.jx_disk.proofs.record.overlay.Goals as goal

module _ (at len from : ℕ) (fill : Option ℕ) (piece first buf : List ℕ) (k value place : ℕ) where
  over : List ℕ → List ℕ
  over bytes = written_over (unwrap_or fill 0) from (painted fill piece) bytes

  length-over : (bytes : List ℕ) → length (over bytes) ≡ max (length bytes) (from + length piece)
  unfolding over
  length-over bytes = omega (arith, length-written_over (unwrap_or fill 0) from (painted fill piece) bytes, length-painted fill piece)

  -- the byte at the next place is written too
  overlaid_more : Overlaid at len from over first buf k → k < length buf → len < 2 ^ 64 → from + length piece < 2 ^ 64
      → place ≡ min (at + k) (2 ^ 64 - 1)
      → ((bytes : List ℕ) → length bytes ≡ len → place < max len (from + length piece) → (place < len → slice_index buf k ≡ slice_index bytes place) → value ≡ slice_index (over bytes) place)
      → Overlaid at len from over first (set buf k value) (k + 1)
  overlaid_more so_far inside short fits placed gives = record {
    same_length = length-set buf k value ∙ so_far.same_length;
    done = λ bytes long shows i low there reach. elim (cases_eq i k) [
      | inl is ↦ here bytes long shows i is there reach
      | inr other ↦ get_or-set_other buf k i value 0 other ∙ so_far.done bytes long shows i (omega arith) there reach
    ];
    rest = λ i high. let other : i ≢ k = omega arith in get_or-set_other buf k i value 0 other ∙ so_far.rest i (omega arith);
  }
    where
      here : (bytes : List ℕ) → length bytes ≡ len → Shows at bytes first → (i : ℕ) → i ≡ k → i < length first → at + i < length (over bytes)
          → slice_index (set buf k value) i ≡ slice_index (over bytes) (at + i)
      here bytes long shows i is there reach =
          let exact : place ≡ at + i = omega (arith, length-over bytes) in
          let shown : place < len → slice_index buf k ≡ slice_index bytes place = λ low.
          so_far.rest k (omega arith) ∙ ap (λ (j : ℕ). slice_index first j) (sym is) ∙ shows i there (omega arith) ∙ ap (λ (j : ℕ). slice_index bytes j) (sym exact) in
          ap (λ (j : ℕ). slice_index (set buf k value) j) is ∙ get_or-set_same buf k value 0 inside
          ∙ gives bytes long (omega (arith, length-over bytes)) shown ∙ ap (λ (j : ℕ). slice_index (over bytes) j) exact

pub loop-k-preserved : goal.loop-k-preserved
unfolding over
loop-k-preserved c =
    overlaid_more c.args.at c.args.len c.args.from c.args.fill c.args.piece.now c.args.buf.now c.loop-k.buf c.loop-k.k c.byte_after.result c.saturating_add-place.result
    c.loop-k.invariant (omega arith) (omega arith) (omega arith) (omega arith) c.byte_after.ensures
