use Rattle.java_unit_reading.proofs.ReadingLaws.{at_most_one_unit}
use Rattle.java_unit_reading.proofs.laws.one_unit.Goals as goal

pub returns : goal.returns
returns c = at_most_one_unit
