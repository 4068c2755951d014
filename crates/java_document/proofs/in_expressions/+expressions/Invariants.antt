use Rattle.std.proofs.Common.{map, take}
use Rattle.java_model.specs.Grammar.Pieces.{each}
use Rattle.java_model.specs.Grammar.YieldExpr.{yield_expr, yield_initializer, yield_operation, yield_selector}
use Rattle.java_document.specs.Holes.{locals_in, Finds}
use Rattle.java_document.proofs.in_expressions.+expressions.Given as goal

-- what stands in those so far is found
abbrev pub invariant-in_initializers-loop-initializer : goal.invariant-in_initializers-loop-initializer
invariant-in_initializers-loop-initializer l = Finds (locals_in l.scope) (each (map yield_initializer (take l.initializer-index l.initializers))) l.initial.found.items l.found.items

abbrev pub invariant-in_exprs-loop-x : goal.invariant-in_exprs-loop-x
invariant-in_exprs-loop-x l = Finds (locals_in l.scope) (each (map yield_expr (take l.x-index l.exprs))) l.initial.found.items l.found.items

abbrev pub invariant-in_operations-loop-operation : goal.invariant-in_operations-loop-operation
invariant-in_operations-loop-operation l = Finds (locals_in l.scope) (each (map yield_operation (take l.operation-index l.operations))) l.initial.found.items l.found.items

abbrev pub invariant-in_selectors-loop-selector : goal.invariant-in_selectors-loop-selector
invariant-in_selectors-loop-selector l = Finds (locals_in l.scope) (each (map yield_selector (take l.selector-index l.selectors))) l.initial.found.items l.found.items
