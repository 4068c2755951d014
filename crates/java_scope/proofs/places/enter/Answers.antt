use Rattle.std.proofs.Common.{slice_get, sym, ap, ◌∙◌, arith}
use Rattle.java_model.specs.Tree.Children.{children}
use Rattle.java_nodes.specs.Seen.{seen}
use Rattle.java_scope.specs.Units.{context}
use Rattle.java_scope.proofs.Spots.{the_child, child_before, no_child, begins_with}
use Rattle.java_scope.proofs.places.enter.Goals as goal

pub loop-before-init : goal.loop-before-init
loop-before-init c =
    begins_with (context c.args.unit.now) c.args.scope.now c.opens.new.scope (seen c.args.node) c.args.at c.in_ok-opens.ensures

pub loop-before-preserved : goal.loop-before-preserved
loop-before-preserved c =
    child_before (context c.args.unit.now) c.loop-before.scope c.leaves.new.scope (children c.args.unit.now.types.types.now (seen c.args.node)) c.loop-before.before c.args.at (seen c.in-Some.child) _
    (omega (arith, c.loop-before-test.true))
    (sym (c.in-Some.ensures ∙ ap (λ ts. slice_get (children ts (seen c.args.node)) c.loop-before.before) c.requires)) c.in_ok-leaves.ensures c.loop-before.invariant

pub returns-in_default : goal.returns-in_default
returns-in_default c =
    no_child (context c.args.unit.now) c.loop-before.scope (children c.args.unit.now.types.types.now (seen c.args.node)) c.loop-before.before c.args.at _
    (sym (c.in_default.ensures ∙ ap (λ ts. slice_get (children ts (seen c.args.node)) c.loop-before.before) c.requires)) c.loop-before.invariant

pub returns : goal.returns
returns c =
    the_child (context c.args.unit.now) c.loop-before.scope (children c.args.unit.now.types.types.now (seen c.args.node)) c.loop-before.before c.args.at c.child-2.result _
    (omega (arith, c.loop-before-test.false, c.loop-before.auto.before-end))
    (c.child-2.ensures ∙ ap (λ ts. slice_get (children ts (seen c.args.node)) c.args.at) c.requires) c.loop-before.invariant
