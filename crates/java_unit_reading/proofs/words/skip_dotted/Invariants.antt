use Rattle.std.proofs.Common.{◌≡◌, ◌≤◌, ◌-◌, length}
use Rattle.java_unit_reading.specs.Reading.Words.{skip_dotted}
use Rattle.java_unit_reading.proofs.words.skip_dotted.Given as goal

abbrev pub invariant-loop-turn : goal.invariant-loop-turn
invariant-loop-turn l = record { same : skip_dotted l.fn.look ≡ skip_dotted l.look; few : length l.look ≤ l._turn-end - l._turn }
