use Rattle.std.proofs.Common.{◌≡◌, take}
use Rattle.std.specs.List.{filter}
use Rattle.java_model.specs.Names.Supertypes.{inherits_type}
use Rattle.java_members.specs.Inheriting.{type_of}
use Rattle.java_members.proofs.finding_types.those_inherited.Given as goal

-- those of the members so far
abbrev pub invariant-loop-m : goal.invariant-loop-m
invariant-loop-m l = l.inherited ≡ filter (λ m. inherits_type l.env l.t (type_of m)) (take l.m-index l.members)
