use Rattle.std.proofs.Common.{map, take}
use Rattle.java_model.specs.Grammar.Pieces.{each}
use Rattle.java_model.specs.Grammar.YieldUnit.{yield_top}
use Rattle.java_document.specs.Holes.{locals_in, Finds}
use Rattle.java_document.proofs.in_members.in_tops.Given as goal

-- what stands in those so far is found
abbrev pub invariant-loop-top : goal.invariant-loop-top
invariant-loop-top l = Finds (locals_in l.scope) (each (map yield_top (take l.top-index l.tops))) l.initial.found.items l.found.items
