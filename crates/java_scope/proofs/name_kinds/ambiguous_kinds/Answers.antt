use Rattle.std.proofs.Common.{arith}
use Rattle.java_scope.specs.Units.{context}
use Rattle.java_scope.proofs.NextKinds.{ambiguous_from, read}
use Rattle.java_scope.proofs.name_kinds.ambiguous_kinds.Goals as goal

pub returns-in_ok-first-in-len1-up : goal.returns-in_ok-first-in-len1-up
returns-in_ok-first-in-len1-up c =
    ambiguous_from (context c.args.unit.now) c.args.scope.now c.args.names.now c.as_str.result.now c.in_ok-first-in-len1-up.first c.kinds_from.result
    (read c.args.names.now 0 c.name-item.result c.as_str.result.now (omega (arith, c.in-len1-up.len_at_least)) c.name-item.is c.as_str.ensures)
    c.in_ok-first-in-len1-up.ensures c.kinds_from.ensures
