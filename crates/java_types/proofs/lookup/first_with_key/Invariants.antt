use Rattle.std.proofs.Common.{length}
use Rattle.java_types.specs.Tables.{Tests}
use Rattle.java_types.proofs.Seeking.{SoughtFrom, left_of}
use Rattle.java_types.proofs.lookup.first_with_key.Given as goal

-- None of the types before the next number fits.
abbrev pub invariant-loop-next : goal.invariant-loop-next
invariant-loop-next g l = SoughtFrom (Tests g.F.Fn l.fits) l.entries l.table l.key l.next

abbrev pub decreases-loop-next : goal.decreases-loop-next
decreases-loop-next g l = left_of (length l.entries) l.next
