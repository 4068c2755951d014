use Rattle.std.proofs.Common.{inr, arith}
use Rattle.java_bind.specs.Roles.{role_of}
use Rattle.java_bind.proofs.Loops.{last_identifiers, next_identifiers}
use Rattle.java_bind.proofs.names.identifiers_in.Goals as goal

pub returns-then-kinds_left-eq1 : goal.returns-then-kinds_left-eq1
returns-then-kinds_left-eq1 c =
    last_identifiers (role_of c.args.role) c.i-item.result c.kind-item.result c.loop-left.left.now c.loop-left.kinds_left.now _ _ _ _
    (omega arith) (omega arith) c.i-item.is c.kind-item.is (inr c.if-kinds_left-eq1.true)
    c.last_access-then-kinds_left-eq1.ensures c.in_ok-identifier_in-2.ensures c.loop-left.invariant

pub loop-left-preserved : goal.loop-left-preserved
loop-left-preserved c =
    next_identifiers (role_of c.args.role) c.i-item.result c.kind-item.result c.loop-left.left.now c.loop-left.kinds_left.now _ _ _
    (omega arith) (omega arith) c.i-item.is c.kind-item.is c.if-left-eq1.false c.if-kinds_left-eq1.false
    c.in_ok-identifier_in-3.ensures c.loop-left.invariant
