use Rattle.java_supers.specs.Ranking.{AreRanks}
use Rattle.java_supers.proofs.ranking.rank_from.Given as goal

-- ranks so far
abbrev pub invariant-loop : goal.invariant-loop
invariant-loop l = AreRanks l.nexts l.ranks
