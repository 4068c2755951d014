use Rattle.std.proofs.Common.{arith}
use Rattle.java_bind_expr.proofs.Digits.{too_large}
use Rattle.java_bind_expr.proofs.literals.is_at_most.Goals as goal

pub returns-then-value-bound : goal.returns-then-value-bound
returns-then-value-bound c =
    too_large c.args.base c.loop-digit.value c.args.bound c.digit_value.result c.args.digits.now c.loop-digit.digit-index c.requires.some (omega arith)
    c.digit_value.ensures c.if-value-bound.true c.loop-digit.invariant.left
