-- A record of calls, as the calls that it stands for.
use Rattle.std.specs.Prelude.{◌≡◌, ℕ, Bool, true, ◌&&◌, nat_lt, ◌+◌, ◌^◌, ◌<◌, List, [], ◌∷◌, length, slice_index, take, drop, if◌then◌else◌, ◌==◌}
use Rattle.jx_disk.specs.Disk.{Image}
use Rattle.jx_disk.specs.Calls.{DiskCall, Quiet, Written, Shortened, Synced}
use Rattle.jx_disk.specs.declared.record.Call.{Call}
use Rattle.jx_disk.specs.declared.record.Call.TheVariants.{Read, Write, Cut, Sync}
use Rattle.jx_disk.specs.declared.record.FileBytes.{FileBytes}

-- a call, where a write has the first of these bytes
abbrev pub call_told : Call → List ℕ → DiskCall
call_told Read written = Quiet
call_told (Write file at len) written = Written file at (take len written)
call_told (Cut file len) written = Shortened file len
call_told Sync written = Synced

-- the written bytes that a call leaves to those after it
abbrev pub rest_after : Call → List ℕ → List ℕ
rest_after Read written = written
rest_after (Write file at len) written = drop len written
rest_after (Cut file len) written = written
rest_after Sync written = written

-- each write has the next of the written bytes
abbrev pub told : List Call → List ℕ → List DiskCall
told [] written = []
told (call ∷ calls) written = call_told call written ∷ told calls (rest_after call written)

-- how many bytes a record has written
abbrev pub total_written : List Call → ℕ
total_written [] = 0
total_written (Read ∷ calls) = total_written calls
total_written (Write file at len ∷ calls) = len + total_written calls
total_written (Cut file len ∷ calls) = total_written calls
total_written (Sync ∷ calls) = total_written calls

-- no write of the record goes past the greatest place
abbrev pub all_in_range : List Call → Bool
all_in_range [] = true
all_in_range (Read ∷ calls) = all_in_range calls
all_in_range (Write file at len ∷ calls) = nat_lt (at + len) (2 ^ 64) && all_in_range calls
all_in_range (Cut file len ∷ calls) = all_in_range calls
all_in_range (Sync ∷ calls) = all_in_range calls

-- the bytes of a file in a list of files
abbrev pub bytes_in : List FileBytes → Image
bytes_in [] file = []
bytes_in (f ∷ files) file = if file == f.number then f.bytes.items else bytes_in files file

-- a buffer has the bytes of a file from a place on, as far as the file goes
abbrev pub Shows : ℕ → List ℕ → List ℕ → Type 0
Shows at bytes buf = (k : ℕ) → k < length buf → at + k < length bytes → slice_index buf k ≡ slice_index bytes (at + k)
