use Rattle.java_unit_reading.proofs.ReadingLaws.{reads_each_unit, reads_no_other_unit}
use Rattle.java_unit_reading.proofs.laws.reads_units.Goals as goal

pub returns : goal.returns
returns c = record { each = reads_each_unit; no_other = reads_no_other_unit }
