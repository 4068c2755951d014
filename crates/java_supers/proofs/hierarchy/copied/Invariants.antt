use Rattle.std.proofs.Common.{◌≡◌, take}
use Rattle.java_supers.proofs.hierarchy.copied.Given as goal

-- the types so far
abbrev pub invariant-loop-of : goal.invariant-loop-of
invariant-loop-of l = l.copy ≡ take l.of-index l.types
