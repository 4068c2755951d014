use Rattle.std.proofs.Common.{map, take}
use Rattle.java_model.specs.Grammar.Pieces.{each}
use Rattle.java_model.specs.Grammar.YieldUnit.{yield_member}
use Rattle.java_document.specs.Holes.{Keeps}
use Rattle.java_document.proofs.in_members.in_members.Given as goal

-- what stands in those so far is found
abbrev pub invariant-loop-member : goal.invariant-loop-member
invariant-loop-member l = Keeps (each (map yield_member (take l.member-index l.members))) l.initial.scope l.scope l.initial.found.items l.found.items
