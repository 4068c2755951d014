use Rattle.java_supers.proofs.Ranks.{none-ranked}
use Rattle.java_supers.proofs.ranking.ranks.Goals as goal

pub loop-number-init : goal.loop-number-init
loop-number-init c = none-ranked c.args.nexts.now c.in_ok-ranks.ranks c.in_ok-ranks.ensures
