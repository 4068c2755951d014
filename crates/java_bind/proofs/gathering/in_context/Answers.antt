use Rattle.std.proofs.Common.{List, subst, sym, ap, ◌∙◌}
use Rattle.java_tree.specs.declared.occurrence.Occurrence.{Occurrence}
use Rattle.java_model.specs.Tree.Nodes.{unit}
use Rattle.java_model.specs.Occurrences.Occurrences.{Occurrences}
use Rattle.java_scope.specs.Units.{context}
use Rattle.java_bind.proofs.WholeUnit.{gathered}
use Rattle.java_bind.proofs.gathering.in_context.Goals as goal

pub returns : goal.returns
returns c =
    subst (λ (os : List Occurrence). Occurrences (context c.args.placed.now) c.args.unit.now os) (sym c.from_vec.ensures)
    (gathered (context c.args.placed.now) c.args.unit.now _ _ _ _ _ c.in_ok-_types.ensures.walked
    c.new-scope.ensures (c.root-root.ensures ∙ ap unit c.in_ok-tree.ensures) c.new-found.ensures.items c.in_ok-in_order.ensures.same c.in_ok-in_order.ensures.rise)
