use Rattle.std.proofs.Common.{◌≡◌, take}
use Rattle.java_model.specs.Bindings.Chains.{flat_types}
use Rattle.java_bind_expr.proofs.parts.flat_types.Given as goal

-- the types of the parts so far
abbrev pub invariant-loop-types : goal.invariant-loop-types
invariant-loop-types l = l.all ≡ flat_types (take l.types-index l.parts)
