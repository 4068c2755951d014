-- What a crash leaves of the files of a disk in memory: of those that it had, and of those that its calls name.
use Rattle.std.specs.Prelude.{◌≡◌, ◌⊎◌, ℕ, suc, Bool, true, false, ◌||◌, ◌==◌, List, [], ◌∷◌, take, Option}
use Rattle.jx_disk.specs.Disk.{Image, SameFiles}
use Rattle.jx_disk.specs.Calls.{DiskCall, crash_bytes, MayLeave}
use Rattle.jx_disk.specs.Told.{told, bytes_in}
use Rattle.jx_disk.specs.declared.record.Call.{Call}
use Rattle.jx_disk.specs.declared.record.Call.TheVariants.{Read, Write, Cut, Sync}
use Rattle.jx_disk.specs.declared.record.FileBytes.{FileBytes}
use Rattle.jx_disk.specs.declared.record.Record.{Record}

-- an image that a crash during the call after so many may leave, or a crash now where no call is after
abbrev pub MayInterrupt : Image → List DiskCall → ℕ → Image → Type 0
MayInterrupt opening calls count image =
    MayLeave opening (SameFiles opening) (take count calls) image
    ⊎ MayLeave opening (SameFiles opening) (take (suc count) calls) image

-- a file stands in a list of files
abbrev pub is_listed : List FileBytes → ℕ → Bool
is_listed [] file = false
is_listed (f ∷ files) file = file == f.number || is_listed files file

-- a call names a file
abbrev pub names : ℕ → Call → Bool
names file Read = false
names file (Write other at len) = file == other
names file (Cut other len) = file == other
names file Sync = false

-- a call of a list names a file
abbrev pub any_names : List Call → ℕ → Bool
any_names [] file = false
any_names (call ∷ calls) file = names file call || any_names calls file

-- what a crash leaves of a file
abbrev pub left_of : List FileBytes → Record → Option ℕ → ℕ → ℕ → List ℕ
left_of opening made fill count file =
    crash_bytes (told made.calls.items made.written.items) fill count file (bytes_in opening file) (bytes_in opening file)

-- the files that are listed hold what is left of them
abbrev pub AreLeft : (ℕ → List ℕ) → List FileBytes → Type 0
AreLeft left files = (file : ℕ) → is_listed files file ≡ true → bytes_in files file ≡ left file

-- each file of the first kind is listed
abbrev pub Lists : (ℕ → Bool) → List FileBytes → Type 0
Lists kind files = (file : ℕ) → kind file ≡ true → is_listed files file ≡ true
