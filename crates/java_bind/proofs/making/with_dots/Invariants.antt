use Rattle.std.proofs.Common.{◌≡◌, ◌++◌, length, string_bytes}
use Rattle.java_model.specs.Outlines.{spelled_name}
use Rattle.java_model.specs.Names.Lists.{with_dots}
use Rattle.java_bind.proofs.making.with_dots.Given as goal

-- what is written, and what is left
abbrev pub invariant-loop-rest : goal.invariant-loop-rest
invariant-loop-rest l = string_bytes l.dotted ++ with_dots (spelled_name l.rest) ≡ with_dots (spelled_name l.name)

abbrev pub decreases-loop-rest : goal.decreases-loop-rest
decreases-loop-rest l = length l.rest
