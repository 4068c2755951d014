use Rattle.std.proofs.Common.{map, ap, ◌∙◌}
use Rattle.java_resolve.specs.Resolving.{bound_of}
use Rattle.java_scope.specs.Units.{context}
use Rattle.java_scope.proofs.TypeBounds.{resolved}
use Rattle.java_scope.proofs.type_names.resolve_at.Goals as goal

pub returns : goal.returns
returns c =
    resolved (context c.args.unit.now) c.args.scope.now (map bound_of c.as_slice.result.now) c.args.name.now c.resolve.result
    (ap (map bound_of) c.as_slice.ensures ∙ c.in_ok-bounds.ensures) c.resolve.ensures
