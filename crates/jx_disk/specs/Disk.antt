-- What the calls of a disk do to its files, and what a crash between two syncs may leave of them.
use Rattle.std.specs.Prelude.{◌≡◌, ◌≢◌, ◌⊎◌, ℕ, ◌+◌, ◌-◌, ◌≤◌, min, max, List, ◌++◌, length, take, drop, replicate, Result, OnOk, OnErr}
use Rattle.jx_io.specs.Stream.{CountedOne}
use Rattle.jx_disk.specs.declared.disk.DiskFault.{DiskFault}

-- the bytes of each file, by its number; a file that was never written has none
abbrev pub Image : Type 0
Image = ℕ → List ℕ

-- the same bytes in every file
abbrev pub SameFiles : Image → Image → Type 0
SameFiles old new = (file : ℕ) → new file ≡ old file

-- at most so many bytes of a file, from a place on
abbrev pub window : ℕ → ℕ → List ℕ → List ℕ
window at n bytes = take n (drop at bytes)

-- a file with this piece written at a place; where the place lies past the file's end, this byte fills what lies between
abbrev pub written_over : ℕ → ℕ → List ℕ → List ℕ → List ℕ
written_over fill at piece bytes =
    take at (bytes ++ replicate (at - length bytes) fill) ++ piece ++ drop (at + length piece) bytes

-- A write of n bytes has had any part of its effect: any bytes in its range and past the old end, the same elsewhere.
pub record TornWrite (at n : ℕ) (old new : List ℕ) : Type 0 where
  pub before : take (min at (length old)) new ≡ take at old
  pub after : drop (at + n) new ≡ drop (at + n) old
  pub no_shorter : length old ≤ length new
  pub no_longer : length new ≤ max (length old) (at + n)

-- A cut has had any part of its effect: what it spares stays, and past it stands anything, no longer than before.
pub record TornCut (n : ℕ) (old new : List ℕ) : Type 0 where
  pub spared : take n new ≡ take n old
  pub no_longer : length new ≤ length old

-- one file changes by a step, and no other
pub record ChangesFile (file : ℕ) (step : List ℕ → List ℕ → Type 0) (old new : Image) : Type 0 where
  pub changed : step (old file) (new file)
  pub others : (other : ℕ) → other ≢ file → new other ≡ old other

-- each new outcome of a crash is an old outcome after a step
abbrev pub Follows : (Image → Image → Type 0) → (Image → Type 0) → (Image → Type 0) → Type 0
Follows step old new = (image : Image) → new image → (was : Image) × old was × step was image

-- no outcome of a crash is new
abbrev pub Within : (Image → Type 0) → (Image → Type 0) → Type 0
Within old new = (image : Image) → new image → old image

-- a crash leaves these files and nothing else
abbrev pub Only : Image → (Image → Type 0) → Type 0
Only seen outcomes = (image : Image) → outcomes image → SameFiles seen image

-- Time goes on by at most one moment: a crash since t might have left what it might have left before, or what it may leave now.
pub record Elapses (before now : ℕ) (past since : ℕ → Image → Type 0) (may_leave : Image → Type 0) : Type 0 where
  pub later : before ≤ now
  pub soon : now ≤ before + 1
  pub nothing_else : (t : ℕ) (image : Image) → t ≤ before → since t image → past t image ⊎ may_leave image
  pub keeps : (t : ℕ) (image : Image) → t ≤ before → past t image → since t image

-- a failed call is counted as a fault, and no other
pub record CountsFault {T : Type 0} (result : Result T DiskFault) (before now : ℕ) : Type 0 where
  pub cause : OnErr result (CountedOne before now)
  pub quiet : OnOk result (now ≡ before)
  pub counted : before ≤ now

-- A crash at any moment since old leaves files that have P.
pub record LeavesOnly {D : Type 0} (moment : D → ℕ) (left_since : D → ℕ → Image → Type 0) (old new : D)
    (P : Image → Type 0) : Type 0 where
  pub later : moment old ≤ moment new
  pub each : (image : Image) → left_since new (moment old) image → P image
  -- for a run of calls that began earlier
  pub before : (t : ℕ) (image : Image) → t ≤ moment old → left_since new t image → left_since old t image ⊎ P image
