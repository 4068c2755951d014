-- A tally owns nothing, so threads may share it.
use denote.Param.Send.{IsSync, part_keyless}
use Rattle.jx_io.specs.contracts.tally.Tally.{the_row}
use Rattle.jx_io.proofs.tally.Tally.TheSendSync.Send.{send}

pub sync : IsSync the_row
sync = record { shared = λ d b o κ q. part_keyless the_row send q d b o }
