use Rattle.java_expr_reading.proofs.Standing.{reads_each_qualifier, reads_no_other_qualifier}
use Rattle.java_expr_reading.proofs.laws.reads_qualifiers.Goals as goal

pub returns : goal.returns
returns c = record { each = reads_each_qualifier; no_other = reads_no_other_qualifier }
