use Rattle.java_scope.specs.Units.{context}
use Rattle.java_nodes.specs.Seen.{seen}
use Rattle.java_bind.proofs.PartsWalked.{IsWalking}
use Rattle.java_bind.proofs.walking.+walk.Given as goal

-- the parts so far were gone through
abbrev pub invariant-loop-at : goal.invariant-loop-at
invariant-loop-at l =
    IsWalking (context l.unit) (record { scope = l.fn.scope; node = seen l.node }) l.at l.values l.scope l.initial.found.items l.found.items

abbrev pub decreases-walk : goal.decreases-walk
decreases-walk l = l.room
