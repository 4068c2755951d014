use Rattle.std.proofs.Common.{rules}
use Rattle.java_scope.specs.Units.{context}
use Rattle.java_scope.proofs.Leaving.{each_more}
use Rattle.java_scope.proofs.scoping.leaves_each.Goals as goal

pub loop-statement-preserved : goal.loop-statement-preserved
loop-statement-preserved c =
    each_more (context c.args.unit.now) c.loop-statement.scope c.leaves_statement.new.scope _ c.args.statements.now c.loop-statement.statement-index _
    (search rules) (search rules) c.in_ok-leaves_statement.ensures c.loop-statement.invariant
