use Rattle.std.proofs.Common.{◌≡◌, false, length}
use Rattle.java_scan.specs.Steps.{tail_end}
use Rattle.java_scan.proofs.cursor.Cursor.skip_comment_tail.Given as goal

-- the rest that is left ends where the whole rest does
abbrev pub invariant-loop-self : goal.invariant-loop-self
invariant-loop-self l = tail_end false l.self ≡ tail_end false l.initial.self

abbrev pub decreases-loop-self : goal.decreases-loop-self
decreases-loop-self l = length l.self.left
