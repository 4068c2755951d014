use Rattle.std.proofs.Common.{◌≡◌, take}
use Rattle.std.specs.List.{filter}
use Rattle.java_model.specs.Names.Fields.{inherits_field}
use Rattle.java_members.specs.Inheriting.{field_of}
use Rattle.java_members.proofs.finding_fields.those_inherited.Given as goal

-- those of the members so far
abbrev pub invariant-loop-m : goal.invariant-loop-m
invariant-loop-m l = l.inherited ≡ filter (λ m. inherits_field l.env l.t (field_of m)) (take l.m-index l.members)
