-- What a crash during a part of a save may leave.
use Rattle.std.specs.Prelude.{◌≡◌, ◌≢◌, ◌⊎◌, ℕ, slice_index}
use Rattle.jx_disk.specs.Disk.{Image, SameFiles, TornWrite, ChangesFile}

-- an image that a crash might leave before, after a step
abbrev pub After : (Image → Type 0) → (Image → Image → Type 0) → Image → Type 0
After outcomes step image = (was : Image) × outcomes was × step was image

-- a byte of the state file may be any
abbrev pub ChangesByte : ℕ → Image → Image → Type 0
ChangesByte at old new = ChangesFile 1 (TornWrite at 1) old new

-- The gate is as it was, or it was open and may be any byte.
abbrev pub ClosesGate : ℕ → Image → Image → Type 0
ClosesGate at old new = SameFiles old new ⊎ ((slice_index (old 1) at ≡ 1) × ChangesByte at old new)

-- no file but one has changed
abbrev pub ChangesOnly : ℕ → Image → Image → Type 0
ChangesOnly file old new = (other : ℕ) → other ≢ file → new other ≡ old other
