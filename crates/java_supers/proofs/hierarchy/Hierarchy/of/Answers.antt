use Rattle.std.proofs.Common.{map, flat_map, ap, ◌∙◌, subst}
use Rattle.java_model.specs.Names.TypeNames.{class_of}
use Rattle.java_supers.specs.Walking.{AreBeside}
use Rattle.java_supers.proofs.hierarchy.Hierarchy.of.Goals as goal

pub invariant_of-hierarchy : goal.invariant_of-hierarchy
invariant_of-hierarchy c = record {
  direct_are = c.in_ok-direct.ensures;
  known_are = c.in_ok-known.ensures.known ∙ ap (map (flat_map class_of)) c.as_slice.ensures;
  ranked = c.in_ok-known.ensures.ranked;
  beside_are = subst (λ k. AreBeside k c.in_ok-beside.beside) c.as_slice-2.ensures c.in_ok-beside.ensures;
}
