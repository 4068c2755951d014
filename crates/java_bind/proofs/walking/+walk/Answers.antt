use Rattle.std.proofs.Common.{◌++◌, ap, sym, ◌∙◌, slice_get}
use Rattle.java_model.specs.Tree.Children.{children}
use Rattle.java_model.specs.Bindings.Values.{node_types}
use Rattle.java_model.specs.Occurrences.Occurrences.{node_names}
use Rattle.java_scope.specs.Units.{context}
use Rattle.java_nodes.specs.Seen.{seen}
use Rattle.java_bind.proofs.PartsWalked.{begins, goes_on, closes, ends}
use Rattle.java_bind.proofs.walking.+walk.Goals as goal

pub loop-at-init : goal.loop-at-init
loop-at-init t c = begins (context c.args.unit.now) (record { scope = c.args.scope.now; node = seen c.args.node }) _ _ _ c.new-values.ensures c.in_ok-opens.ensures

pub loop-at-preserved : goal.loop-at-preserved
loop-at-preserved t c =
    goes_on (context c.args.unit.now) (record { scope = c.args.scope.now; node = seen c.args.node }) c.loop-at.at c.loop-at.values c.loop-at.scope _ _ c.loop-at.invariant
    (seen c.in-Some.child) c.in_ok-value-in-Some.value _ _ _ _
    (sym (c.in-Some.ensures ∙ ap (λ ts. slice_get (children ts (seen c.args.node)) c.loop-at.at) c.requires))
    c.in_ok-value-in-Some.ensures.walked c.in_ok-value-in-Some.ensures.same c.in_ok-push-in-Some.ensures.ok c.in_ok-leaves-in-Some.ensures

pub returns-in-None-clause-walked : goal.returns-in-None-clause-walked
returns-in-None-clause-walked t c =
    ends (context c.args.unit.now) (record { scope = c.args.scope.now; node = seen c.args.node }) c.loop-at.at c.loop-at.values c.loop-at.scope _ _ c.loop-at.invariant
    c.cut.new.self _ _
    (sym (c.in-None.ensures ∙ ap (λ ts. slice_get (children ts (seen c.args.node)) c.loop-at.at) c.requires))
    (closes (context c.args.unit.now) (record { scope = c.args.scope.now; node = seen c.args.node }) c.loop-at.at c.loop-at.values c.loop-at.scope _ _ c.loop-at.invariant
    c.len-outside.result c.cut.new.self c.len-outside.ensures c.cut.ensures)
    (c.in_ok-types-in-None.ensures.types ∙ ap (node_types (context c.args.unit.now) c.cut.new.self (seen c.args.node)) c.as_slice.ensures)
    (c.in_ok-types-in-None.ensures.names ∙ ap (λ vs. c.loop-at.found.items ++ node_names (context c.args.unit.now) c.cut.new.self (seen c.args.node) vs) c.as_slice.ensures)
