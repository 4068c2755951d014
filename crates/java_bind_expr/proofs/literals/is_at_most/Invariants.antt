use Rattle.std.proofs.Common.{◌≡◌, ◌≤◌, drop}
use Rattle.java_model.specs.Bindings.Conditionals.{digits_value}
use Rattle.java_bind_expr.proofs.literals.is_at_most.Given as goal

-- what is left decides
abbrev pub invariant-loop-digit : goal.invariant-loop-digit
invariant-loop-digit l = record {
  small : l.value ≤ l.bound;
  left : digits_value l.base l.value (drop l.digit-index l.digits) ≡ digits_value l.base 0 l.digits;
}
