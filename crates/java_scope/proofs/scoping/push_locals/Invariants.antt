use Rattle.std.proofs.Common.{◌≡◌, ◌++◌, map, take}
use Rattle.java_model.specs.Scopes.Scoping.{local_variable}
use Rattle.java_scope.specs.Units.{context}
use Rattle.java_scope.proofs.scoping.push_locals.Given as goal

-- the variables so far
abbrev pub invariant-loop-variable : goal.invariant-loop-variable
invariant-loop-variable l =
    l.scope ≡ l.fn.scope ++ map (local_variable (context l.unit) l.fn.scope l.locals.of) (take l.variable-index l.locals.variables)
