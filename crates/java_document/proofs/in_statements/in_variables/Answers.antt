use Rattle.std.proofs.Common.{rules}
use Rattle.java_model.specs.Grammar.YieldStmt.{yield_variable}
use Rattle.java_document.specs.Holes.{locals_in}
use Rattle.java_document.proofs.Seeing.{finds_next}
use Rattle.java_document.proofs.in_statements.in_variables.Goals as goal

pub loop-variable-preserved : goal.loop-variable-preserved
loop-variable-preserved c = search (rules, finds_next (locals_in c.args.scope.now) yield_variable c.args.variables.now c.loop-variable.variable-index c.variable-item.result)
