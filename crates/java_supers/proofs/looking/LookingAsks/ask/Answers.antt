use Rattle.std.proofs.Common.{ap, ◌∙◌}
use Rattle.java_model.specs.Names.Supertypes.{declared_types}
use Rattle.java_supers.proofs.Noting.{declared-holds}
use Rattle.java_supers.proofs.looking.LookingAsks.ask.Goals as goal

pub returns-in_ok-only_if-in-Some-clause-value : goal.returns-in_ok-only_if-in-Some-clause-value
returns-in_ok-only_if-in-Some-clause-value c = λ a h.
    declared-holds c.args.self.now a c.args.t c.args.name.now c.in-Some.member _ h
    (c.in-Some.ensures ∙ ap (λ l. declared_types l.env c.args.t c.args.name.now) c.self.view_is) c.in_ok-only_if-in-Some.ensures
