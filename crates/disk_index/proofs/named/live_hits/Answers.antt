use Rattle.std.proofs.Common.{get_or, sym, subst, refl}
use Rattle.std.specs.List.Sorted.{IsNonDecreasing, IsPermutation}
use Rattle.std.proofs.lemmas.List.Sorted.{IsNonDecreasingBy-from_sort}
use Rattle.disk_index.proofs.HitLoop.{chosen_begins, chosen_goes_on, chosen_ends, there, same_hits}
use Rattle.disk_index.proofs.named.live_hits.Goals as goal

pub loop-hit-init : goal.loop-hit-init
loop-hit-init c = chosen_begins c.args.live.now c.as_slice-hit-items.result.now c.new-numbers.result.items c.new-numbers.ensures.items

pub push_live-requires : goal.push_live-requires
push_live-requires c =
    c.requires.inside (get_or c.as_slice-hit-items.result.now c.loop-hit.hit-index 0)
    (there c.args.hits.items c.as_slice-hit-items.result.now c.loop-hit.hit-index c.loop-hit-test.true (subst (IsPermutation c.args.hits.items) (sym c.as_slice-hit-items.ensures.value) c.sort_unstable.ensures.permutation))

pub loop-hit-preserved : goal.loop-hit-preserved
loop-hit-preserved c =
    chosen_goes_on c.args.live.now c.as_slice-hit-items.result.now c.loop-hit.numbers.items c.push_live.new.numbers.items c.loop-hit.next c.loop-hit.hit-index c.in_ok-next.next (get_or c.as_slice-hit-items.result.now c.loop-hit.hit-index 0)
    (subst IsNonDecreasing (sym c.as_slice-hit-items.ensures.value) (IsNonDecreasingBy-from_sort (λ x. x) c.sort_unstable.new.self.items c.sort_unstable.ensures.sorted)) c.loop-hit-test.true refl
    (c.requires.inside (get_or c.as_slice-hit-items.result.now c.loop-hit.hit-index 0)
    (there c.args.hits.items c.as_slice-hit-items.result.now c.loop-hit.hit-index c.loop-hit-test.true (subst (IsPermutation c.args.hits.items) (sym c.as_slice-hit-items.ensures.value) c.sort_unstable.ensures.permutation)))
    c.in_ok-next.ensures c.loop-hit.invariant

pub returns : goal.returns
returns c =
    chosen_ends c.args.live.now c.as_slice-hit-items.result.now c.args.hits.items c.loop-hit.numbers.items c.loop-hit.next c.loop-hit.hit-index c.loop-hit-test.false
    (λ k. same_hits c.args.hits.items c.as_slice-hit-items.result.now k (subst (IsPermutation c.args.hits.items) (sym c.as_slice-hit-items.ensures.value) c.sort_unstable.ensures.permutation)) c.loop-hit.invariant
