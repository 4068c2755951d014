use Rattle.std.proofs.Common.{◌≡◌, drop}
use Rattle.std.specs.List.{zip}
use Rattle.java_model.specs.Bindings.Values.{operations_type}
use Rattle.java_bind_expr.proofs.values.operations_type.Given as goal

-- what is left decides
abbrev pub invariant-loop-operation : goal.invariant-loop-operation
invariant-loop-operation l =
    operations_type l.env l.t (zip (drop l.operation-index l.operations) l.rest)
    ≡ operations_type l.env l.initial.t (zip l.operations l.parts)
