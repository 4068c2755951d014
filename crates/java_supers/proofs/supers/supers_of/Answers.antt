use Rattle.std.proofs.Common.{rules, ◌∙◌, ap}
use Rattle.java_model.specs.Names.Supertypes.{supers_by}
use Rattle.java_model.specs.Names.TypeNames.{resolve_by}
use Rattle.java_resolve.specs.Resolving.{scope_of}
use Rattle.java_supers.proofs.Heads.{its_supers}
use Rattle.java_supers.proofs.supers.supers_of.Goals as goal

pub returns-clause-value : goal.returns-clause-value
returns-clause-value g c = λ a h.
    its_supers c.args.env.now a c.args.d.now _ _ (c.in_ok-is_object.ensures c.args.d.now c.requires) (search rules)
    (c.in_ok-types.ensures.value a h
    ∙ ap (λ bs. supers_by c.args.env.now (resolve_by c.args.env.now a (scope_of c.args.d.now.outline bs)) c.args.d.now.type.kind c.args.d.now.type.extends c.args.d.now.type.implements) c.as_slice.ensures
    ∙ ap (λ s. supers_by c.args.env.now (resolve_by c.args.env.now a s) c.args.d.now.type.kind c.args.d.now.type.extends c.args.d.now.type.implements) c.in_ok-bounds.ensures)
