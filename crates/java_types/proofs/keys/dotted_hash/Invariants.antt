use Rattle.std.proofs.Common.{◌≡◌, length}
use Rattle.java_model.specs.Names.Lists.{with_dots}
use Rattle.java_types.specs.Keys.{hashed}
use Rattle.java_types.proofs.keys.dotted_hash.Given as goal

-- what is left gives the hash
abbrev pub invariant-loop-rest : goal.invariant-loop-rest
invariant-loop-rest l = hashed l.hash (with_dots l.rest) ≡ hashed 0 (with_dots l.name)

abbrev pub decreases-loop-rest : goal.decreases-loop-rest
decreases-loop-rest l = length l.rest
