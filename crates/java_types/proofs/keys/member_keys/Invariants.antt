use Rattle.std.proofs.Common.{◌≡◌, map, take}
use Rattle.java_types.specs.Keys.{entry_member_key}
use Rattle.java_types.proofs.keys.member_keys.Given as goal

-- the keys so far
abbrev pub invariant-loop-entry : goal.invariant-loop-entry
invariant-loop-entry l = l.keys ≡ map entry_member_key (take l.entry-index l.entries)
