-- What each recorded call of a disk does to its files.
use Rattle.std.specs.Prelude.{ℕ, zero, suc, ◌+◌, nat_lt, List, [], ◌∷◌, ◌++◌, length, take, replicate, Option, None, Some, unwrap_or, if◌then◌else◌, ◌==◌}
use Rattle.jx_disk.specs.Disk.{Image, SameFiles, written_over, TornWrite, TornCut, ChangesFile}

-- Quiet: a call that reads, or one that failed
pub data DiskCall : Type 0 where
  Quiet : DiskCall
  Written : (file at : ℕ) (piece : List ℕ) → DiskCall
  Shortened : (file len : ℕ) → DiskCall
  Synced : DiskCall

-- these calls and one that changes nothing, where there is room for it
abbrev pub quiet_more : List DiskCall → ℕ → List DiskCall
quiet_more calls room = if nat_lt (length calls) room then calls ++ Quiet ∷ [] else calls

-- how many bytes these calls write
abbrev pub bytes_written : List DiskCall → ℕ
bytes_written [] = 0
bytes_written (Quiet ∷ calls) = bytes_written calls
bytes_written (Written file at piece ∷ calls) = length piece + bytes_written calls
bytes_written (Shortened file len ∷ calls) = bytes_written calls
bytes_written (Synced ∷ calls) = bytes_written calls

-- the bytes of a piece, all of them this byte where there is one
abbrev pub painted : Option ℕ → List ℕ → List ℕ
painted None piece = piece
painted (Some byte) piece = replicate (length piece) byte

-- a file after a call; where a byte is given, each byte that the call makes pending is that one
abbrev pub file_after : Option ℕ → DiskCall → ℕ → List ℕ → List ℕ
file_after fill Quiet file bytes = bytes
file_after fill (Written other at piece) file bytes =
    if file == other then written_over (unwrap_or fill 0) at (painted fill piece) bytes else bytes
file_after fill (Shortened other len) file bytes = if file == other then take len bytes else bytes
file_after fill Synced file bytes = bytes

abbrev pub image_after : Option ℕ → DiskCall → Image → Image
image_after fill call image = λ file. file_after fill call file (image file)

-- a file, and the files, after a list of calls
abbrev pub bytes_after : Option ℕ → List DiskCall → ℕ → List ℕ → List ℕ
bytes_after fill [] file bytes = bytes
bytes_after fill (call ∷ calls) file bytes = bytes_after fill calls file (file_after fill call file bytes)

abbrev pub images_after : Option ℕ → List DiskCall → Image → Image
images_after fill calls image = λ file. bytes_after fill calls file (image file)

-- What a crash may leave after one call more, where the files read `seen` and a crash might leave what has P.
abbrev pub MayFollow : DiskCall → Image → (Image → Type 0) → Image → Type 0
MayFollow Quiet seen P image = P image
MayFollow (Written file at piece) seen P image = (was : Image) × P was × ChangesFile file (TornWrite at (length piece)) was image
MayFollow (Shortened file len) seen P image = (was : Image) × P was × ChangesFile file (TornCut len) was image
MayFollow Synced seen P image = SameFiles seen image

-- the same after a list of calls
abbrev pub MayLeave : Image → (Image → Type 0) → List DiskCall → Image → Type 0
MayLeave seen P [] image = P image
MayLeave seen P (call ∷ calls) image = MayLeave (image_after None call seen) (MayFollow call seen P) calls image

-- What a file holds where a crash comes during the call after so many: each pending byte is as written, or the given byte.
-- `seen` is what a read gives of it, and `kept` what the calls so far have left so.
abbrev pub crash_bytes : List DiskCall → Option ℕ → ℕ → ℕ → List ℕ → List ℕ → List ℕ
crash_bytes [] fill count file seen kept = kept
crash_bytes (call ∷ calls) fill zero file seen kept = file_after fill call file kept
crash_bytes (Synced ∷ calls) fill (suc count) file seen kept = crash_bytes calls fill count file seen seen
crash_bytes (call ∷ calls) fill (suc count) file seen kept =
    crash_bytes calls fill count file (file_after None call file seen) (file_after fill call file kept)

abbrev pub crash_after : List DiskCall → Option ℕ → ℕ → Image → Image
crash_after calls fill count opening = λ file. crash_bytes calls fill count file (opening file) (opening file)
