use Rattle.std.proofs.Common.{nat_eq}
use Rattle.indexmap.specs.IndexMap.{get}
use Rattle.java_types.specs.Tables.{AreLinked}
use Rattle.java_types.proofs.tables.link.Given as goal

-- the numbers from what is left on are linked
abbrev pub invariant-loop-left : goal.invariant-loop-left
invariant-loop-left l = AreLinked l.keys l.left (get nat_eq l.first) l.next

abbrev pub decreases-loop-left : goal.decreases-loop-left
decreases-loop-left l = l.left
