use Rattle.std.proofs.Common.{◌≡◌, take}
use Rattle.java_jtypes.proofs.words.copy_types.Given as goal

-- the types so far are copied
abbrev pub invariant-loop-of : goal.invariant-loop-of
invariant-loop-of l = l.copies ≡ take l.of-index l.types
