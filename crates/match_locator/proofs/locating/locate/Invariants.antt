use Rattle.std.proofs.Common.{◌≡◌, take}
use Rattle.java_model.specs.Matches.Scans.{matches_of}
use Rattle.match_locator.proofs.locating.locate.Given as goal

-- the matches so far
abbrev pub invariant-loop-found : goal.invariant-loop-found
invariant-loop-found l = l.matches.items ≡ matches_of l.env l.pattern l.doc (take l.found-index l.occurrences)
