use Rattle.std.proofs.Common.{◌≡◌, take}
use Rattle.java_tree.proofs.copy_outline.copy_methods.Given as goal

-- the methods so far are copied
abbrev pub invariant-loop-method : goal.invariant-loop-method
invariant-loop-method l = l.copies.items ≡ take l.method-index l.methods
