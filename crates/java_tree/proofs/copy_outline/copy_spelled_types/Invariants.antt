use Rattle.std.proofs.Common.{◌≡◌, take}
use Rattle.java_tree.proofs.copy_outline.copy_spelled_types.Given as goal

-- the types so far are copied
abbrev pub invariant-loop-spelled : goal.invariant-loop-spelled
invariant-loop-spelled l = l.copies.items ≡ take l.spelled-index l.types
