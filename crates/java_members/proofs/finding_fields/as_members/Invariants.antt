use Rattle.std.proofs.Common.{◌≡◌, map, take}
use Rattle.java_members.specs.Inheriting.{of_field}
use Rattle.java_members.proofs.finding_fields.as_members.Given as goal

-- the fields so far
abbrev pub invariant-loop-f : goal.invariant-loop-f
invariant-loop-f l = l.members ≡ map of_field (take l.f-index l.fields)
