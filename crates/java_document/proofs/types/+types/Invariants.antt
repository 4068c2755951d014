use Rattle.std.proofs.Common.{◌*◌, ◌+◌}
use Rattle.java_document.specs.Outlining.{OutlinesAll}
use Rattle.java_document.proofs.types.+types.Given as goal

abbrev pub decreases-in_type : goal.decreases-in_type
decreases-in_type l = 2 * l.left

abbrev pub decreases-in_holes : goal.decreases-in_holes
decreases-in_holes l = 2 * l.left + 1

-- the outlines of those so far
abbrev pub invariant-in_holes-loop-hole : goal.invariant-in_holes-loop-hole
invariant-in_holes-loop-hole l = OutlinesAll l.types l.left l.yielded l.initial.outlines.items l.outlines.items
