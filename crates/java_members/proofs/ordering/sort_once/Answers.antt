use Rattle.std.proofs.lemmas.List.Filters.{dedup_is}
use Rattle.java_members.proofs.Members.{sorted-rises, sorted-same}
use Rattle.java_members.proofs.ordering.sort_once.Goals as goal

pub returns-clause-rising : goal.returns-clause-rising
returns-clause-rising c = sorted-rises _ _ c.sort_unstable.ensures.sorted (dedup_is _ _ _ c.dedup.ensures.filtered)

pub returns-clause-same : goal.returns-clause-same
returns-clause-same c = sorted-same _ _ _ c.sort_unstable.ensures.permutation (dedup_is _ _ _ c.dedup.ensures.filtered)
