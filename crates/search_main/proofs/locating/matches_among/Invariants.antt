use Rattle.std.proofs.Common.{take}
use Rattle.search_main.specs.Inner.Located.{AreMatchesAmong}
use Rattle.search_main.specs.Inner.Views.{documents_read}
use Rattle.search_main.proofs.locating.matches_among.Given as goal

abbrev pub invariant-loop-one : goal.invariant-loop-one
invariant-loop-one l = AreMatchesAmong l.env l.scope l.pattern (documents_read (take l.one-index l.opened)) l.matches.items
