use Rattle.std.proofs.Common.{◌≤◌, length}
use Rattle.jx_disk.proofs.folder.read_full.Given as goal

abbrev pub invariant-loop : goal.invariant-loop
invariant-loop g l = l.got ≤ length l.buf
