use Rattle.std.proofs.Common.{rules, ◌≡◌, true, sym, ap, ◌∙◌, arith}
use Rattle.std.specs.Prelude.{slice_get}
use Rattle.std.specs.List.{list_all}
use Rattle.java_supers.specs.Ranking.{is_below}
use Rattle.java_supers.specs.Reaching.{next_in}
use Rattle.java_supers.proofs.Ranks.{one-ranked}
use Rattle.java_supers.proofs.ranking.rank_type.Goals as goal

pub returns : goal.returns
returns c =
    let none : c.has_no_rank.result ≡ true = search rules in
    let below : c.are_below.result ≡ true = search rules in
    let rank = c.rank_above-rank.result in
    one-ranked c.args.nexts.now c.args.ranks.now c.set.new.self c.args.t rank c.requires (omega (arith, c.if-rank-nexts.false))
    (ap (λ rs. slice_get rs c.args.t.0) (sym c.as_slice-2.ensures) ∙ c.has_no_rank.ensures none)
    (ap (λ rs. list_all (is_below rs rank) (next_in c.args.nexts.now c.args.t)) (sym c.as_slice-3.ensures) ∙ ap (list_all (is_below c.as_slice-3.result.now rank)) (sym c.next_in-next.ensures)
    ∙ sym c.are_below.ensures ∙ below)
    c.set.ensures
