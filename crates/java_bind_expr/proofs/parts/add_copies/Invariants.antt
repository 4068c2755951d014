use Rattle.std.proofs.Common.{◌≡◌, ◌++◌, take}
use Rattle.java_bind_expr.proofs.parts.add_copies.Given as goal

-- the types so far are copied
abbrev pub invariant-loop-t : goal.invariant-loop-t
invariant-loop-t l = l.all ≡ l.fn.all ++ take l.t-index l.types
