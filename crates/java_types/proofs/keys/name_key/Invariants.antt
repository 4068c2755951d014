use Rattle.std.proofs.Common.{◌≡◌, drop}
use Rattle.std.specs.Prelude.{fold}
use Rattle.java_types.specs.Keys.{hashed, name_key}
use Rattle.java_types.proofs.keys.name_key.Given as goal

-- the names that are left give the key
abbrev pub invariant-loop-name : goal.invariant-loop-name
invariant-loop-name l = fold hashed l.key (drop l.name-index l.names) ≡ name_key l.qualifier l.names
