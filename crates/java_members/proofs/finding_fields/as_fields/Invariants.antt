use Rattle.std.proofs.Common.{◌≡◌, map, take}
use Rattle.java_members.specs.Inheriting.{field_of}
use Rattle.java_members.proofs.finding_fields.as_fields.Given as goal

-- the members so far
abbrev pub invariant-loop-m : goal.invariant-loop-m
invariant-loop-m l = l.fields ≡ map field_of (take l.m-index l.members)
