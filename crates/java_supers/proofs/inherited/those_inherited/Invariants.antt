use Rattle.std.proofs.Common.{◌≡◌, take}
use Rattle.std.specs.List.{filter}
use Rattle.java_model.specs.Names.Supertypes.{inherits_type}
use Rattle.java_supers.proofs.inherited.those_inherited.Given as goal

-- those of the members so far
abbrev pub invariant-loop-member : goal.invariant-loop-member
invariant-loop-member l = l.inherited ≡ filter (inherits_type l.env l.t) (take l.member-index l.members)
