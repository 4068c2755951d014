use Rattle.std.proofs.Common.{◌≡◌, map, take}
use Rattle.java_types.specs.Keys.{prefix_key}
use Rattle.java_types.proofs.keys.prefix_keys.Given as goal

-- the keys so far
abbrev pub invariant-loop-name : goal.invariant-loop-name
invariant-loop-name l = l.keys ≡ map prefix_key (take l.name-index l.names)
