use Rattle.std.proofs.Common.{◌≡◌, ◌≤◌, ◌-◌, length}
use Rattle.java_unit_reading.specs.Reading.Words.{skip_dims}
use Rattle.java_unit_reading.proofs.words.skip_dims.Given as goal

abbrev pub invariant-loop-turn : goal.invariant-loop-turn
invariant-loop-turn l = record { same : skip_dims l.fn.look ≡ skip_dims l.look; few : length l.look ≤ l._turn-end - l._turn }
