use Rattle.std.proofs.Common.{◌≡◌, length}
use Rattle.java_scan.specs.Steps.{after_string_characters}
use Rattle.java_scan.proofs.cursor.Cursor.skip_string_characters.Given as goal

-- the characters that are left end where all do
abbrev pub invariant-loop-c : goal.invariant-loop-c
invariant-loop-c l = after_string_characters l.self ≡ after_string_characters l.initial.self

abbrev pub decreases-loop-c : goal.decreases-loop-c
decreases-loop-c l = length l.self.left
