use Rattle.std.proofs.Common.{sym, ap, ◌∙◌, is_some}
use Rattle.std.specs.List.{list_all}
use Rattle.java_supers.proofs.ranking.check_ranked.Goals as goal

pub returns-then-all_ranked : goal.returns-then-all_ranked
returns-then-all_ranked c = record {
  ranks = c.in_ok-ranks.ranks;
  are = c.in_ok-ranks.ensures;
  all = ap (list_all is_some) (sym c.as_slice.ensures) ∙ sym c.all_ranked.ensures ∙ c.if-all_ranked.true;
}
