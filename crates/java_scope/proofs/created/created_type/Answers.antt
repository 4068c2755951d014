use Rattle.java_scope.specs.Units.{context}
use Rattle.java_scope.proofs.Creating.{held_type}
use Rattle.java_scope.proofs.created.created_type.Goals as goal

pub returns-in-Some : goal.returns-in-Some
returns-in-Some c =
    held_type (context c.args.unit.now) c.args.scope.now c.args.anonymous c.in-Some.t c.args.name.now c.in-Some.ensures c.resolve_in_header.result c.resolve_in_header.ensures
