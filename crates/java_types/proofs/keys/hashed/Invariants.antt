use Rattle.std.proofs.Common.{◌≡◌, drop}
use Rattle.java_types.specs.Keys.{hashed}
use Rattle.java_types.proofs.keys.hashed.Given as goal

-- the bytes that are left give the hash
abbrev pub invariant-loop-byte : goal.invariant-loop-byte
invariant-loop-byte l = hashed l.hash (drop l.byte-index l.text) ≡ hashed l.before l.text
