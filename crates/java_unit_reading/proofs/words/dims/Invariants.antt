use Rattle.std.proofs.Common.{◌≡◌, ◌-◌}
use Rattle.java_unit_reading.specs.Reading.Words.{dims, dims_from}
use Rattle.java_unit_reading.proofs.words.dims.Given as goal

abbrev pub invariant-loop-turn : goal.invariant-loop-turn
invariant-loop-turn l = dims l.fn.reader ≡ dims_from (l._turn-end - l._turn) l.found l.reader
