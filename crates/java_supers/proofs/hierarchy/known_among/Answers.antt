use Rattle.std.proofs.Common.{subst}
use Rattle.java_supers.specs.Ranking.{HaveRanks}
use Rattle.java_supers.proofs.hierarchy.known_among.Goals as goal

pub returns-clause-ranked : goal.returns-clause-ranked
returns-clause-ranked c = subst HaveRanks c.as_slice.ensures c.in_ok-check_ranked.ensures
