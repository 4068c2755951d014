use Rattle.std.proofs.Common.{◌≡◌, ◌++◌, length}
use Rattle.std.specs.List.{zip}
use Rattle.java_model.specs.Occurrences.Expressions.{names_in_chain}
use Rattle.java_scope.specs.Units.{context}
use Rattle.java_bind.proofs.chains.names_in_chain.Given as goal

-- what is found, and what is left
abbrev pub invariant-loop-left : goal.invariant-loop-left
invariant-loop-left l = record {
  same : l.scope ≡ l.initial.scope;
  adds : l.found.items ++ names_in_chain (context l.unit) l.initial.scope l.how l.t (zip l.left l.types_left)
      ≡ l.initial.found.items ++ names_in_chain (context l.unit) l.initial.scope l.how l.initial.t (zip l.selectors l.arguments);
}

abbrev pub decreases-loop-left : goal.decreases-loop-left
decreases-loop-left l = length l.left
