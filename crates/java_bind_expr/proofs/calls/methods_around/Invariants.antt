use Rattle.std.proofs.Common.{◌≡◌, drop}
use Rattle.java_bind_expr.specs.Around.{first_with_method}
use Rattle.java_bind_expr.proofs.calls.methods_around.Given as goal

-- what is left decides
abbrev pub invariant-loop-t : goal.invariant-loop-t
invariant-loop-t l = first_with_method l.env l.name (drop l.t-index l.types) ≡ first_with_method l.env l.name l.types
