use Rattle.std.proofs.Common.{◌≡◌, drop}
use Rattle.std.specs.List.{zip}
use Rattle.java_model.specs.Bindings.Chains.{chain_type}
use Rattle.java_scope.specs.Units.{context}
use Rattle.java_bind_expr.proofs.chains.chain_type.Given as goal

-- what is left decides
abbrev pub invariant-loop-selector : goal.invariant-loop-selector
invariant-loop-selector l =
    chain_type (context l.unit) l.scope l.t (zip (drop l.selector-index l.selectors) l.rest)
    ≡ chain_type (context l.unit) l.scope l.initial.t (zip l.selectors l.parts)
