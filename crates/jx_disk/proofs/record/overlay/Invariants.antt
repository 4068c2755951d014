use Rattle.std.proofs.Common.{◌≡◌, ◌≤◌, ◌+◌, ◌<◌, ℕ, List, length, slice_index, unwrap_or}
use Rattle.jx_disk.specs.Disk.{written_over}
use Rattle.jx_disk.specs.Calls.{painted}
use Rattle.jx_disk.specs.Told.{Shows}
use Rattle.jx_disk.proofs.record.overlay.Given as goal

-- the places so far hold what is written, and the others what they held
pub record Overlaid (at len from : ℕ) (over : List ℕ → List ℕ) (first buf : List ℕ) (k : ℕ) : Type 0 where
  pub same_length : length buf ≡ length first
  pub done : (bytes : List ℕ) → length bytes ≡ len → Shows at bytes first → (i : ℕ) → i < k → i < length first → at + i < length (over bytes) → slice_index buf i ≡ slice_index (over bytes) (at + i)
  pub rest : (i : ℕ) → k ≤ i → slice_index buf i ≡ slice_index first i

abbrev pub invariant-loop-k : goal.invariant-loop-k
invariant-loop-k l =
    Overlaid l.at l.len l.from (λ bytes. written_over (unwrap_or l.fill 0) l.from (painted l.fill l.piece) bytes) l.initial.buf l.buf l.k
