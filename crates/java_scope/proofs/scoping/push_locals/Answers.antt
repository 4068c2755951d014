use Rattle.std.proofs.Common.{rules}
use Rattle.java_scope.specs.Units.{context}
use Rattle.java_scope.proofs.Leaving.{locals_more}
use Rattle.java_scope.proofs.scoping.push_locals.Goals as goal

pub loop-variable-preserved : goal.loop-variable-preserved
loop-variable-preserved c =
    locals_more (context c.args.unit.now) c.args.scope.now c.loop-variable.scope c.push_variable.new.scope c.args.locals.now.of c.args.locals.now.variables c.loop-variable.variable-index c.variable-item.result
    (search rules) (search rules) c.loop-variable.invariant c.in_ok-push_variable.ensures
