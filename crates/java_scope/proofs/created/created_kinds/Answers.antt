use Rattle.java_scope.specs.Units.{context}
use Rattle.java_scope.proofs.Creating.{held_kinds}
use Rattle.java_scope.proofs.created.created_kinds.Goals as goal

pub returns-in-Some : goal.returns-in-Some
returns-in-Some c =
    held_kinds (context c.args.unit.now) c.args.scope.now c.args.anonymous c.in-Some.t c.args.name.now c.in-Some.ensures c.header_kinds.result c.header_kinds.ensures
