use Rattle.std.proofs.Common.{◌≡◌, length, drop}
use Rattle.jx_disk.specs.Told.{bytes_in}
use Rattle.jx_disk.proofs.memory.open_file.Given as goal

abbrev pub invariant-loop-f : goal.invariant-loop-f
invariant-loop-f l = (bytes_in (drop l.f-index l.files) l.file ≡ bytes_in l.files l.file) × (length l.buf ≡ length l.initial.buf)
