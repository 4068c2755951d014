use Rattle.std.proofs.Common.{rules}
use Rattle.java_model.specs.Grammar.YieldUnit.{yield_top}
use Rattle.java_document.specs.Holes.{locals_in}
use Rattle.java_document.proofs.Seeing.{finds_next}
use Rattle.java_document.proofs.in_members.in_tops.Goals as goal

pub loop-top-preserved : goal.loop-top-preserved
loop-top-preserved c =
    finds_next (locals_in c.args.scope.now) yield_top c.args.tops.now c.loop-top.top-index _ c.args.found.now.items c.loop-top.found.items c.in_top.new.found.items
    (search rules) c.loop-top.invariant c.in_ok-in_top.ensures
