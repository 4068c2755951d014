use Rattle.std.proofs.Common.{◌≡◌, ◌+◌, ◌≤◌, length}
use Rattle.java_model.specs.Names.Environments.{same_id}
use Rattle.java_model.specs.Names.Lists.{is_among}
use Rattle.java_supers.specs.Ranking.{HaveRanks}
use Rattle.java_supers.specs.Reaching.{reached_in}
use Rattle.java_supers.proofs.Ranks.{rank_of}
use Rattle.java_supers.proofs.walking.leads_to.Given as goal

-- The type so far leads to what the first one does, and its rank is low enough for the steps that are left.
abbrev pub invariant-loop-step : goal.invariant-loop-step
invariant-loop-step l = record {
  same : is_among same_id l.t (reached_in l.nexts l.of) ≡ is_among same_id l.t (reached_in l.nexts l.fn.s);
  low : (have : HaveRanks l.nexts) → rank_of have.ranks l.of + l.step ≤ length l.nexts;
}
