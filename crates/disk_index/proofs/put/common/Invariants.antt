use Rattle.std.proofs.Common.{◌≡◌, ◌+◌, ◌-◌, ◌≤◌, drop, length}
use Rattle.java_model.specs.IndexFile.Spelling.{common}
use Rattle.disk_index.proofs.put.common.Given as goal

abbrev pub invariant-loop-at : goal.invariant-loop-at
invariant-loop-at l = record {
  left_long : l.at ≤ length l.left;
  right_long : l.at ≤ length l.right;
  same : l.at + common (drop l.at l.left) (drop l.at l.right) ≡ common l.left l.right;
}

abbrev pub decreases-loop-at : goal.decreases-loop-at
decreases-loop-at l = length l.left - l.at
