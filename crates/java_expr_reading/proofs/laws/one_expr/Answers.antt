use Rattle.java_expr_reading.proofs.Standing.{at_most_one_expr}
use Rattle.java_expr_reading.proofs.laws.one_expr.Goals as goal

pub returns : goal.returns
returns c = at_most_one_expr
