use Rattle.std.proofs.Common.{◌≡◌, ◌≤◌, drop, length}
use Rattle.java_model.specs.Names.TypeNames.{body_locals}
use Rattle.java_resolve.proofs.header.body_locals.Given as goal

-- those of the types from what is left on
abbrev pub invariant-loop-left : goal.invariant-loop-left
invariant-loop-left l = record { within : l.left ≤ length l.around; locals : l.locals ≡ body_locals l.d (drop l.left l.around) }

abbrev pub decreases-loop-left : goal.decreases-loop-left
decreases-loop-left l = l.left
