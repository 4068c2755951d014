use Rattle.std.proofs.Common.{length, ap, arith}
use Rattle.java_types.proofs.Longest.{longer}
use Rattle.java_types.proofs.named.is_longer.Goals as goal

pub returns-then-size-left : goal.returns-then-size-left
returns-then-size-left c holds =
    let size = ap length c.as_str-size.ensures in
    longer c.args.name.now c.loop-identifier.identifier-index c.args.longest c.loop-identifier.left c.identifier-item.result c.loop-identifier-test.true c.identifier-item.is c.loop-identifier.invariant
    (omega (arith, size, c.if-size-left.true))
