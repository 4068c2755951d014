use Rattle.std.proofs.Common.{◌≡◌, take}
use Rattle.java_tree.proofs.copy_lists.copy_numbers.Given as goal

-- the numbers so far are copied
abbrev pub invariant-loop-number : goal.invariant-loop-number
invariant-loop-number l = l.copies.items ≡ take l.number-index l.numbers
