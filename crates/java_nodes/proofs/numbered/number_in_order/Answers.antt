use Rattle.std.proofs.Common.{rules}
use Rattle.std.proofs.lemmas.List.Sorted.{answers_always}
use Rattle.java_nodes.proofs.InOrder.{found, none}
use Rattle.java_nodes.proofs.numbered.number_in_order.Goals as goal

-- the closure gives the offset of a type
pub returns-in-Ok : goal.returns-in-Ok
returns-in-Ok c =
    found c.args.types.now c.args.brace c.in-Ok.number c.requires c.in-Ok.ensures.bound
    (c.in-Ok.ensures.position (λ t. t.brace) (answers_always _ _ _ (λ f a r g called. search rules)))

pub returns-in-Err : goal.returns-in-Err
returns-in-Err c =
    none c.args.types.now c.args.brace c.in-Err.field-0 c.requires
    (c.in-Err.ensures.position (λ t. t.brace) (answers_always _ _ _ (λ f a r g called. search rules)))
