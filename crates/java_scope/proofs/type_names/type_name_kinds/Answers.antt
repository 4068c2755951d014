use Rattle.std.proofs.Common.{map, ap, ◌∙◌}
use Rattle.java_resolve.specs.Resolving.{bound_of}
use Rattle.java_scope.specs.Units.{context}
use Rattle.java_scope.proofs.TypeBounds.{resolved_kinds}
use Rattle.java_scope.proofs.type_names.type_name_kinds.Goals as goal

pub returns : goal.returns
returns c =
    resolved_kinds (context c.args.unit.now) c.args.scope.now (map bound_of c.as_slice.result.now) c.args.name.now c.type_name_kinds.result
    (ap (map bound_of) c.as_slice.ensures ∙ c.in_ok-bounds.ensures) c.type_name_kinds.ensures
