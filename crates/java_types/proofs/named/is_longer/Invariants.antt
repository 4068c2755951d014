use Rattle.std.proofs.Common.{◌≡◌, ◌+◌, length, take}
use Rattle.std.specs.List.{sum_by}
use Rattle.java_types.proofs.named.is_longer.Given as goal

-- What is left, and the identifiers so far.
abbrev pub invariant-loop-identifier : goal.invariant-loop-identifier
invariant-loop-identifier l = l.left + sum_by length (take l.identifier-index l.name) ≡ l.longest
