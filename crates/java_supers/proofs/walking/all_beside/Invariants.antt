use Rattle.std.proofs.Common.{◌≡◌, ◌≤◌, false, length}
use Rattle.java_tree.specs.declared.occurrence.TypeId.{TypeId}
use Rattle.java_supers.specs.Keeping.{has_mark}
use Rattle.java_supers.specs.Reaching.{HasFirst}
use Rattle.java_supers.specs.Walking.{beside_in}
use Rattle.java_supers.proofs.walking.all_beside.Given as goal

-- those of the types so far
abbrev pub invariant-loop-number : goal.invariant-loop-number
invariant-loop-number l = record { within : l.number ≤ length l.nexts; first : HasFirst (beside_in l.nexts) l.number l.table; none : (u : TypeId) → has_mark l.marks u ≡ false }
