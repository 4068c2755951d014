use Rattle.std.proofs.Common.{◌≡◌, take}
use Rattle.std.specs.List.{flat_map}
use Rattle.java_model.specs.Outlines.{methods_in}
use Rattle.java_document.proofs.members.methods.Given as goal

-- those of the members so far are copied
abbrev pub invariant-loop-member : goal.invariant-loop-member
invariant-loop-member l = l.methods ≡ flat_map methods_in (take l.member-index l.members)
