use Rattle.std.proofs.Common.{◌≡◌, ◌-◌}
use Rattle.java_unit_reading.specs.Reading.Steps.{many, list_from, list}
use Rattle.java_unit_reading.specs.Reading.Words as spec
use Rattle.java_unit_reading.proofs.words.dotted_idents.Given as goal

abbrev pub invariant-loop-turn : goal.invariant-loop-turn
invariant-loop-turn l = list_from spec.dotted l.fn.found l.fn.reader ≡ many spec.dotted (l._turn-end - l._turn) l.found l.reader
