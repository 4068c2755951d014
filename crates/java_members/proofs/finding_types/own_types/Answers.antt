use Rattle.std.proofs.Common.{[], ◌∷◌, ◌++◌, ap, ◌∙◌}
use Rattle.java_members.specs.Inheriting.{of_type}
use Rattle.java_members.proofs.TypesHad.{has-own}
use Rattle.java_members.proofs.finding_types.own_types.Goals as goal

pub returns : goal.returns
returns c =
    has-own c.args.env.now c.args.name.now c.args.t c.in-Some.own c.push.new.self c.supertypes_have_no_cycle.ensures c.sub_is_transitive.ensures c.in-Some.ensures
    (c.in_ok-push.ensures.ok ∙ ap (λ ms. ms ++ of_type c.in-Some.own ∷ []) c.new-members.ensures)
