use Rattle.java_supers.specs.Ranking.{AreRanks}
use Rattle.java_supers.proofs.ranking.ranks.Given as goal

-- ranks so far
abbrev pub invariant-loop-number : goal.invariant-loop-number
invariant-loop-number l = AreRanks l.nexts l.ranks
