use Rattle.std.proofs.Common.{rules, nat_lt}
use Rattle.std.proofs.lemmas.List.Sorted.{answers_always}
use Rattle.java_nodes.proofs.InOrder.{in_order}
use Rattle.java_nodes.proofs.numbered.are_in_order.Goals as goal

-- the closure compares offsets
pub returns : goal.returns
returns c =
    in_order c.args.types.now c.is_sorted_by.result
    (c.is_sorted_by.ensures.cases (λ x y. nat_lt x.brace y.brace) (answers_always _ _ _ (λ f a r g called. search rules)))
