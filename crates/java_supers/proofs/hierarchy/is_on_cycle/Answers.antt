use Rattle.std.proofs.Common.{sym, ◌∙◌}
use Rattle.java_supers.proofs.Ranks.{off-cycle}
use Rattle.java_supers.proofs.hierarchy.is_on_cycle.Goals as goal

pub returns-then-is_ranked-clause-value : goal.returns-then-is_ranked-clause-value
returns-then-is_ranked-clause-value c = sym (off-cycle c.args.nexts.now c.args.ranks.now c.args.t c.requires.ranks (sym c.is_ranked.ensures ∙ c.if-is_ranked.true))
