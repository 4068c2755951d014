use Rattle.std.proofs.Common.{◌≡◌, map, take}
use Rattle.java_members.specs.Inheriting.{type_of}
use Rattle.java_members.proofs.finding_types.as_types.Given as goal

-- the members so far
abbrev pub invariant-loop-m : goal.invariant-loop-m
invariant-loop-m l = l.types ≡ map type_of (take l.m-index l.members)
