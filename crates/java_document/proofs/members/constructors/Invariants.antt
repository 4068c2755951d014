use Rattle.std.proofs.Common.{◌≡◌, take}
use Rattle.std.specs.List.{flat_map}
use Rattle.java_model.specs.Outlines.{constructors_in}
use Rattle.java_document.proofs.members.constructors.Given as goal

-- those of the members so far are copied
abbrev pub invariant-loop-member : goal.invariant-loop-member
invariant-loop-member l = l.constructors ≡ flat_map constructors_in (take l.member-index l.members)
