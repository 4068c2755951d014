use Rattle.std.proofs.Common.{◌≡◌, false, chars, length}
use Rattle.java_scan.specs.Unescaping.{escapes_from}
use Rattle.java_scan.proofs.escapes.has_escape.Given as goal

-- what is left has an escape where the whole text has one
abbrev pub invariant-loop-cursor : goal.invariant-loop-cursor
invariant-loop-cursor l = escapes_from false l.cursor.left ≡ escapes_from false (chars l.text)

abbrev pub decreases-loop-cursor : goal.decreases-loop-cursor
decreases-loop-cursor l = length l.cursor.left
