use Rattle.std.proofs.Common.{map, take}
use Rattle.java_model.specs.Grammar.Pieces.{each}
use Rattle.java_model.specs.Grammar.YieldStmt.{in_sequence, yield_arm, yield_catch, yield_block_statement, yield_group}
use Rattle.java_document.specs.Holes.{Keeps, Passes}
use Rattle.java_document.proofs.in_statements.+statements.Given as goal

-- what stands in those so far is found
abbrev pub invariant-in_arms-loop-arm : goal.invariant-in_arms-loop-arm
invariant-in_arms-loop-arm l = Keeps (each (map yield_arm (take l.arm-index l.arms))) l.initial.scope l.scope l.initial.found.items l.found.items

abbrev pub invariant-in_catches-loop-catch : goal.invariant-in_catches-loop-catch
invariant-in_catches-loop-catch l = Keeps (each (map yield_catch (take l.catch-index l.catches))) l.initial.scope l.scope l.initial.found.items l.found.items

abbrev pub invariant-in_block_statements-loop-statement : goal.invariant-in_block_statements-loop-statement
invariant-in_block_statements-loop-statement l =
    Passes (in_sequence (map yield_block_statement (take l.statement-index l.statements))) l.initial.scope l.scope l.initial.found.items l.found.items

abbrev pub invariant-in_each_group-loop-group : goal.invariant-in_each_group-loop-group
invariant-in_each_group-loop-group l = Passes (in_sequence (map yield_group (take l.group-index l.groups))) l.initial.scope l.scope l.initial.found.items l.found.items
