use Rattle.std.proofs.Common.{◌≡◌, ◌++◌, map, drop}
use Rattle.java_model.specs.Tree.InStatements.{block_statement}
use Rattle.java_model.specs.Scopes.Scoping.{leaves_each}
use Rattle.java_scope.specs.Units.{context}
use Rattle.java_scope.proofs.scoping.leaves_each.Given as goal

-- the scope so far, and what the statements that are left bring into it
abbrev pub invariant-loop-statement : goal.invariant-loop-statement
invariant-loop-statement l =
    l.scope ++ leaves_each (context l.unit) l.scope (map block_statement (drop l.statement-index l.statements))
    ≡ l.fn.scope ++ leaves_each (context l.unit) l.fn.scope (map block_statement l.statements)
