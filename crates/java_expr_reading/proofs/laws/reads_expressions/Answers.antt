use Rattle.java_expr_reading.proofs.Standing.{reads_each_expr, reads_no_other}
use Rattle.java_expr_reading.proofs.laws.reads_expressions.Goals as goal

pub returns : goal.returns
returns c = record { each = reads_each_expr; no_other = reads_no_other }
