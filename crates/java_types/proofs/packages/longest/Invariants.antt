use Rattle.std.proofs.Common.{◌≤◌, length, take}
use Rattle.std.specs.List.{AllByRecursion}
use Rattle.java_model.specs.Names.Lists.{Identifiers}
use Rattle.java_types.proofs.packages.longest.Given as goal

-- None so far is longer.
abbrev pub invariant-loop-name : goal.invariant-loop-name
invariant-loop-name l = AllByRecursion (λ (n : Identifiers). length n ≤ l.longest) (take l.name-index l.names)
