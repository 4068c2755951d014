use Rattle.std.proofs.Common.{◌≡◌, map, take}
use Rattle.java_types.specs.Keys.{entry_name_key}
use Rattle.java_types.proofs.keys.name_keys.Given as goal

-- the keys so far
abbrev pub invariant-loop-entry : goal.invariant-loop-entry
invariant-loop-entry l = l.keys ≡ map entry_name_key (take l.entry-index l.entries)
