use Rattle.std.proofs.Common.{◌≡◌, take}
use Rattle.java_types.proofs.packages.copied.Given as goal

abbrev pub invariant-loop-identifier : goal.invariant-loop-identifier
invariant-loop-identifier l = l.copy ≡ take l.identifier-index l.name
