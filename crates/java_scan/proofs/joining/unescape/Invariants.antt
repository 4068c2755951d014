use Rattle.std.proofs.Common.{length, string_bytes}
use Rattle.java_scan.proofs.UnderwayLaws.{IsUnderway}
use Rattle.java_scan.proofs.joining.unescape.Given as goal

-- the text so far is that of the units that were passed
abbrev pub invariant-loop-c : goal.invariant-loop-c
invariant-loop-c l = IsUnderway l.text l.cursor l.even l.waiting (string_bytes l.unescaped.text) l.unescaped.places.items

abbrev pub decreases-loop-c : goal.decreases-loop-c
decreases-loop-c l = length l.cursor.left
