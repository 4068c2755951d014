-- Forms that the search does not find by itself.
use Rattle.std.proofs.Common.{rules, map, subst, refl, sym}
use Rattle.std.proofs.lemmas.Result.{on_ok_weaker}
use Rattle.java_model.specs.Grammar.YieldStmt.{in_sequence, yield_stmt, yield_block_statement, yield_group}
use Rattle.java_document.specs.Holes.{Keeps, Passes}
use Rattle.java_document.proofs.InStatements.{in_ended_block, passes_next, in_block_of, in_labeled, in_expression, in_if, in_while, in_do, in_for, in_switch, in_return, in_throw, in_synchronized, in_try, in_assert, in_empty, in_break, in_continue}
use Rattle.java_document.proofs.in_statements.+statements.Goals as goal

pub in_block-returns : goal.in_block-returns
in_block-returns t c =
    in_ended_block c.args.scope.now c.in_block_statements.new.scope _ c.args.block.now c.args.found.now.items c.in_block_statements.new.found.items
    (subst (λ xs. Passes (in_sequence (map yield_block_statement xs)) c.args.scope.now c.in_block_statements.new.scope c.args.found.now.items c.in_block_statements.new.found.items)
    c.as_slice.ensures c.in_ok-in_block_statements.ensures)
    refl (search rules)

pub in_block_statements-loop-statement-preserved : goal.in_block_statements-loop-statement-preserved
in_block_statements-loop-statement-preserved t c =
    passes_next c.args.scope.now c.loop-statement.scope c.in_block_statement.new.scope yield_block_statement c.args.statements.now c.loop-statement.statement-index c.statement-item.result
    c.args.found.now.items c.loop-statement.found.items c.in_block_statement.new.found.items (search rules) c.loop-statement.invariant
    (subst (λ x. Passes (yield_block_statement x) c.loop-statement.scope c.in_block_statement.new.scope c.loop-statement.found.items c.in_block_statement.new.found.items)
    (search rules) c.in_ok-in_block_statement.ensures)

pub in_each_group-loop-group-preserved : goal.in_each_group-loop-group-preserved
in_each_group-loop-group-preserved t c =
    passes_next c.args.scope.now c.loop-group.scope c.in_group.new.scope yield_group c.args.groups.now c.loop-group.group-index c.group-item.result
    c.args.found.now.items c.loop-group.found.items c.in_group.new.found.items (search rules) c.loop-group.invariant
    (subst (λ x. Passes (yield_group x) c.loop-group.scope c.in_group.new.scope c.loop-group.found.items c.in_group.new.found.items)
    (search rules) c.in_ok-in_group.ensures)

pub in_stmt-returns-in-Block : goal.in_stmt-returns-in-Block
in_stmt-returns-in-Block t c = search (rules, in_block_of)

pub in_stmt-returns-in-Labeled : goal.in_stmt-returns-in-Labeled
in_stmt-returns-in-Labeled t c = search (rules, in_labeled)

pub in_stmt-returns-in-Expression : goal.in_stmt-returns-in-Expression
in_stmt-returns-in-Expression t c = search (rules, in_expression)

pub in_stmt-returns-in_ok-in_arms-in-If : goal.in_stmt-returns-in_ok-in_arms-in-If
in_stmt-returns-in_ok-in_arms-in-If t c = search (rules, in_if)

pub in_stmt-returns-in_ok-in_expr-in-While : goal.in_stmt-returns-in_ok-in_expr-in-While
in_stmt-returns-in_ok-in_expr-in-While t c = search (rules, in_while)

pub in_stmt-returns-in_ok-in_stmt-in-Do : goal.in_stmt-returns-in_ok-in_stmt-in-Do
in_stmt-returns-in_ok-in_stmt-in-Do t c = search (rules, in_do)

pub in_stmt-returns-in_ok-in_exprs-in-For : goal.in_stmt-returns-in_ok-in_exprs-in-For
in_stmt-returns-in_ok-in_exprs-in-For t c = search (rules, in_for)

pub in_stmt-returns-in_ok-in_expr-in-Switch : goal.in_stmt-returns-in_ok-in_expr-in-Switch
in_stmt-returns-in_ok-in_expr-in-Switch t c = search (rules, in_switch)

pub in_stmt-returns-in-Return : goal.in_stmt-returns-in-Return
in_stmt-returns-in-Return t c = search (rules, in_return)

pub in_stmt-returns-in-Throw : goal.in_stmt-returns-in-Throw
in_stmt-returns-in-Throw t c = search (rules, in_throw)

pub in_stmt-returns-in_ok-in_expr-in-Synchronized : goal.in_stmt-returns-in_ok-in_expr-in-Synchronized
in_stmt-returns-in_ok-in_expr-in-Synchronized t c = search (rules, in_synchronized)

pub in_stmt-returns-in_ok-in_catches-in-Try : goal.in_stmt-returns-in_ok-in_catches-in-Try
in_stmt-returns-in_ok-in_catches-in-Try t c =
    on_ok_weaker c.in_finally.result
    (λ f. subst (λ x. Keeps (yield_stmt x) c.args.scope.now c.in_finally.new.scope c.args.found.now.items c.in_finally.new.found.items) (sym c.in-Try.is)
    (in_try c.args.scope.now c.in_block-in-Try.new.scope c.in_catches.new.scope c.in_finally.new.scope c.in-Try.block c.in-Try.catches c.in-Try.last
    c.args.found.now.items c.in_block-in-Try.new.found.items c.in_catches.new.found.items c.in_finally.new.found.items (search rules) (search rules) f))
    c.in_finally.ensures

pub in_stmt-returns-in_ok-in_expr-in-Assert : goal.in_stmt-returns-in_ok-in_expr-in-Assert
in_stmt-returns-in_ok-in_expr-in-Assert t c = search (rules, in_assert)

pub in_stmt-returns-in-Empty : goal.in_stmt-returns-in-Empty
in_stmt-returns-in-Empty t c = search (rules, in_empty)

pub in_stmt-returns-in-Break : goal.in_stmt-returns-in-Break
in_stmt-returns-in-Break t c = search (rules, in_break)

pub in_stmt-returns-in-Continue : goal.in_stmt-returns-in-Continue
in_stmt-returns-in-Continue t c = search (rules, in_continue)
