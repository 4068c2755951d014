use Rattle.std.proofs.Common.{drop}
use Rattle.jx_disk.specs.Calls.{bytes_after}
use Rattle.jx_disk.specs.Told.{told}
use Rattle.jx_disk.proofs.Replaying.{Replayed}
use Rattle.jx_disk.proofs.record.replay.Given as goal

abbrev pub invariant-loop-call : goal.invariant-loop-call
invariant-loop-call l =
    Replayed l.at l.fill l.file l.initial.buf l.buf l.len l.now (drop l.call-index l.calls) l.rest (bytes_after l.fill (told l.calls l.written) l.file)
