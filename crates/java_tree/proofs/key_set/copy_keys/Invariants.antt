use Rattle.std.proofs.Common.{◌≡◌, take}
use Rattle.java_tree.proofs.key_set.copy_keys.Given as goal

-- the keys so far are copied
abbrev pub invariant-loop-key : goal.invariant-loop-key
invariant-loop-key l = l.copies ≡ take l.key-index l.keys
