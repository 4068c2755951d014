use Rattle.std.proofs.Common.{rules, map, subst, refl}
use Rattle.java_model.specs.Grammar.YieldStmt.{in_sequence, yield_block_statement}
use Rattle.java_document.specs.Holes.{Passes}
use Rattle.java_document.proofs.InMembers.{in_constructor}
use Rattle.java_document.proofs.in_members.in_constructor.Goals as goal

pub returns : goal.returns
returns c =
    in_constructor c.args.scope.now c.in_block_statements.new.scope _ c.args.constructor.now c.args.found.now.items c.in_explicit.new.found.items c.in_block_statements.new.found.items
    (search rules)
    (subst (λ xs. Passes (in_sequence (map yield_block_statement xs)) c.args.scope.now c.in_block_statements.new.scope c.in_explicit.new.found.items c.in_block_statements.new.found.items)
    c.as_slice.ensures c.in_ok-in_block_statements.ensures)
    refl (search rules)
