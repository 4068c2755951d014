use Rattle.std.proofs.Common.{◌≡◌, ◌-◌, ◌++◌, length, drop, reverse, take}
use Rattle.java_document.proofs.finding.locals_in.Given as goal

-- the last ones of the body are copied
abbrev pub invariant-loop-i : goal.invariant-loop-i
invariant-loop-i l = l.locals ≡ reverse (drop (length l.scope.own.items - l.i) l.scope.own.items)

-- those of the body are copied, and so many around it
abbrev pub invariant-loop-brace : goal.invariant-loop-brace
invariant-loop-brace l = l.locals ≡ reverse l.scope.own.items ++ take l.brace-index l.scope.base.now
