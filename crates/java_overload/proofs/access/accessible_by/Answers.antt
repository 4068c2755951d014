use Rattle.std.proofs.Common.{ap, sym, ◌∙◌}
use Rattle.std.specs.List.{list_any}
use Rattle.java_model.specs.Names.Accessibility.{accessible_by, is_within}
use Rattle.java_env.specs.Members.{top_kept}
use Rattle.java_env.specs.Visibilities.{visibility_of}
use Rattle.java_overload.proofs.access.accessible_by.Goals as goal

pub returns-in-Private : goal.returns-in-Private
returns-in-Private c = λ d at q.
    c.any_within.ensures ∙ ap (λ o. list_any (is_within c.args.env.now o) c.args.bodies.now) (c.top_level.ensures ∙ ap top_kept at)
    ∙ ap (λ a. accessible_by (visibility_of a) c.args.env.now c.args.bodies.now c.args.here.now d c.args.owner) (sym c.in-Private.is)
