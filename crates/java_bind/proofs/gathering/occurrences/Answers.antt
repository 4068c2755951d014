use Rattle.std.proofs.Common.{sym}
use Rattle.java_scope.specs.Units.{context}
use Rattle.java_bind.proofs.WholeUnit.{in_that}
use Rattle.java_bind.proofs.gathering.occurrences.Goals as goal

pub in_context-requires : goal.in_context-requires
in_context-requires c = sym c.in-Some.ensures.types

pub returns-in_ok-found-in-Some : goal.returns-in_ok-found-in-Some
returns-in_ok-found-in-Some c =
    in_that c.args.env.now c.args.doc.now c.args.unit.now (context c.in-Some.placed) _ c.in-Some.ensures.value c.in_ok-found-in-Some.ensures
