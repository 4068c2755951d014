use Rattle.java_scope.proofs.Seeking.{Seeks, most}
use Rattle.java_scope.proofs.variables.variable_kind.Given as goal

-- neither the variable nor a field of the name after the next place
abbrev pub invariant-loop-place : goal.invariant-loop-place
invariant-loop-place l = Seeks l.unit.env.now l.name l.scope l.local l.next

abbrev pub decreases-loop-place : goal.decreases-loop-place
decreases-loop-place l = most l.local l.next
