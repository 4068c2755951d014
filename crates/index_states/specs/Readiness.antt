-- A store that isn't ready, and one that is but holds nothing.
use Rattle.std.specs.Prelude.{◌≡◌, ◌⊎◌, ℕ, false, List, length, slice_index}
use Rattle.java_model.specs.StateFile.Cells.{state_length}
use Rattle.java_model.specs.StateFile.Recovered.{is_ready}
use Rattle.jx_disk.specs.Disk.{Image}

-- so many zeros; past a list's end a read gives zero too
pub record AreZeros (count : ℕ) (bytes : List ℕ) : Type 0 where
  pub long : length bytes ≡ count
  pub each : (at : ℕ) → slice_index bytes at ≡ 0

-- the ready file says ready, and the state file is all zeros
pub record IsFresh (files : Image) : Type 0 where
  pub ready : slice_index (files 0) 0 ≡ 1
  pub state : AreZeros state_length (files 1)

-- ready only where the state file is all zeros
abbrev pub ReadyOnlyFresh : Image → Type 0
ReadyOnlyFresh files = (is_ready files ≡ false) ⊎ IsFresh files
