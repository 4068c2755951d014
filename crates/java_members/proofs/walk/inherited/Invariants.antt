use Rattle.std.proofs.Common.{take}
use Rattle.std.specs.List.{flat_map}
use Rattle.java_model.specs.Names.TypeNames.{class_of}
use Rattle.java_members.specs.Members.{Same}
use Rattle.java_members.proofs.walk.inherited.Given as goal

-- the members of the types so far
abbrev pub invariant-loop-of : goal.invariant-loop-of
invariant-loop-of g l = Same l.members (flat_map (g.I.Inherits.all l.rule) (flat_map class_of (take l.of-index l.types)))
