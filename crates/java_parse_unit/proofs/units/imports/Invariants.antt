use Rattle.std.proofs.Common.{◌≡◌, ◌-◌}
use Rattle.java_unit_reading.specs.Reading.Steps.{many, list_from, list}
use Rattle.java_unit_reading.specs.Reading.Units as spec
use Rattle.java_parse_unit.proofs.units.imports.Given as goal

abbrev pub invariant-loop-turn : goal.invariant-loop-turn
invariant-loop-turn l = list spec.any_import l.fn.reader ≡ many spec.any_import (l._turn-end - l._turn) l.found l.reader
