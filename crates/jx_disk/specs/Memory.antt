-- What contracts see of a disk in memory: the files at the start, the calls since, which calls fail, and what each call comes to.
use Rattle.std.specs.Prelude.{◌≡◌, ◌⊎◌, ◌↔◌, ℕ, ◌+◌, ◌<◌, ◌≤◌, List, ◌++◌, [], ◌∷◌, length, take, Contains, None, Result, IsErr, OnOk, OnErr}
use Rattle.jx_io.specs.Stream.{next_count}
use Rattle.jx_disk.specs.Disk.{Image, SameFiles, Elapses}
use Rattle.jx_disk.specs.Calls.{DiskCall, bytes_written, quiet_more, images_after, MayLeave}
use Rattle.jx_disk.specs.Told.{told, bytes_in}
use Rattle.jx_disk.specs.declared.disk.DiskFault.{DiskFault}
use Rattle.jx_disk.specs.declared.memory.MemDisk.{MemDisk}

-- the files that a disk had before its first call
abbrev pub opening_of : MemDisk → Image
opening_of disk = bytes_in disk.opening.items

-- the calls that were made, as far as the room held them
abbrev pub calls_of : MemDisk → List DiskCall
calls_of disk = told disk.record.calls.items disk.record.written.items

-- what a read gives
abbrev pub seen_of : MemDisk → Image
seen_of disk = images_after None (calls_of disk) (opening_of disk)

-- what a crash may leave
abbrev pub may_leave_of : MemDisk → Image → Type 0
may_leave_of disk = MayLeave (opening_of disk) (SameFiles (opening_of disk)) (calls_of disk)

-- what a crash after at least so many of these calls may have left
abbrev pub since : Image → List DiskCall → ℕ → Image → Type 0
since opening calls t image =
    (k : ℕ) × (t ≤ k) × (k ≤ length calls) × MayLeave opening (SameFiles opening) (take k calls) image

abbrev pub left_since_of : MemDisk → ℕ → Image → Type 0
left_since_of disk = since (opening_of disk) (calls_of disk)

-- the time goes on over a call
abbrev pub Passes : MemDisk → MemDisk → Type 0
Passes old new = Elapses (length (calls_of old)) (length (calls_of new)) (left_since_of old) (left_since_of new) (may_leave_of new)

-- the next call is one of those that fail
abbrev pub FailsNext : MemDisk → Type 0
FailsNext disk = Contains disk.failing.items (next_count disk.made)

-- no room is left for a call
abbrev pub IsSpent : MemDisk → Type 0
IsSpent disk = disk.record.call_room ≤ length (calls_of disk)

-- no room is left for a call that writes so many bytes
abbrev pub IsFull : MemDisk → ℕ → Type 0
IsFull disk count = IsSpent disk ⊎ (disk.record.byte_room < bytes_written (calls_of disk) + count)

-- one call more stands in the record
pub record Recorded (call : DiskCall) (old new : MemDisk) : Type 0 where
  pub opening : new.opening ≡ old.opening
  pub calls : calls_of new ≡ calls_of old ++ call ∷ []

-- a call that changes nothing stands in the record beside those that stood there, where there is room for it
pub record Looked (old new : MemDisk) : Type 0 where
  pub opening : new.opening ≡ old.opening
  pub calls : calls_of new ≡ quiet_more (calls_of old) old.record.call_room

-- which calls fail, and how many calls and bytes there is room for, stays
pub record Settled (old new : MemDisk) : Type 0 where
  pub failing : new.failing ≡ old.failing
  pub call_room : new.record.call_room ≡ old.record.call_room
  pub byte_room : new.record.byte_room ≡ old.record.byte_room

-- What making a call comes to: it fails just where it is one of those that fail, or finds no room.
pub record Makes {T : Type 0} (call : DiskCall) (no_room : Type 0) (result : Result T DiskFault) (old new : MemDisk) : Type 0 where
  pub fails : IsErr result ↔ (FailsNext old ⊎ no_room)
  pub recorded : OnOk result (Recorded call old new)
  pub looked : OnErr result (Looked old new)
  pub made : new.made ≡ next_count old.made
  pub settled : Settled old new
