use Rattle.std.proofs.Common.{map, take}
use Rattle.java_model.specs.Grammar.Pieces.{each}
use Rattle.java_model.specs.Grammar.YieldStmt.{yield_variable}
use Rattle.java_document.specs.Holes.{locals_in, Finds}
use Rattle.java_document.proofs.in_statements.in_variables.Given as goal

-- what stands in those so far is found
abbrev pub invariant-loop-variable : goal.invariant-loop-variable
invariant-loop-variable l = Finds (locals_in l.scope) (each (map yield_variable (take l.variable-index l.variables))) l.initial.found.items l.found.items
