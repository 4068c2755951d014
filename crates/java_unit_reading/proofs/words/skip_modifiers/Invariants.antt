use Rattle.std.proofs.Common.{◌≡◌, ◌≤◌, ◌-◌, length}
use Rattle.java_unit_reading.specs.Reading.Words.{skip_modifiers}
use Rattle.java_unit_reading.proofs.words.skip_modifiers.Given as goal

abbrev pub invariant-loop-turn : goal.invariant-loop-turn
invariant-loop-turn l = record { same : skip_modifiers l.fn.look ≡ skip_modifiers l.look; few : length l.look ≤ l._turn-end - l._turn }
