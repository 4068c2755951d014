use Rattle.std.proofs.Common.{[], ap, subst, ◌∙◌}
use Rattle.java_model.specs.Names.Environments.{declared_at}
use Rattle.java_types.specs.Entries.{has_no_document}
use Rattle.java_env.specs.Members.{top_kept}
use Rattle.java_env.proofs.Undeclared.{made, no-members}
use Rattle.java_env.proofs.members.members_of.Goals as goal

pub returns-in-None : goal.returns-in-None
returns-in-None c =
    ap (λ fs. made fs c.new-in-None.result c.itself.result) c.new.ensures ∙ ap (λ bs. made [] bs c.itself.result) c.new-in-None.ensures
    ∙ no-members c.args.env.now c.args.t c.itself.result (subst (λ e. has_no_document e c.args.t) c.types.ensures c.in-None.ensures)
    (c.itself.ensures ∙ ap (λ e. top_kept (declared_at e c.args.t)) c.types-in-None.ensures)
