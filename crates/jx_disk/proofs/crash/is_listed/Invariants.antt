use Rattle.std.proofs.Common.{◌≡◌, drop}
use Rattle.jx_disk.specs.Crash.{is_listed}
use Rattle.jx_disk.proofs.crash.is_listed.Given as goal

abbrev pub invariant-loop-f : goal.invariant-loop-f
invariant-loop-f l = is_listed (drop l.f-index l.files) l.file ≡ is_listed l.files l.file
