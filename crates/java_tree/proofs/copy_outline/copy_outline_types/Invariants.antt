use Rattle.std.proofs.Common.{◌≡◌, take}
use Rattle.java_tree.proofs.copy_outline.copy_outline_types.Given as goal

-- the types so far are copied
abbrev pub invariant-loop-declared : goal.invariant-loop-declared
invariant-loop-declared l = l.copies.items ≡ take l.declared-index l.types
