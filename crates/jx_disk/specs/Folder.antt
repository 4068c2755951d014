-- What contracts see of a disk over a folder: its count of faults alone.
use Rattle.std.specs.Prelude.{[], ⊤}
use Rattle.jx_disk.specs.Disk.{Image}

-- no bytes are shown
abbrev pub shown_nowhere : Image
shown_nowhere file = []

-- a crash may leave anything
abbrev pub anything : Image → Type 0
anything image = ⊤
