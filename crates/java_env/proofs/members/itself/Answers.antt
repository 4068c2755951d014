use Rattle.std.proofs.Common.{sym, ◌∙◌}
use Rattle.java_env.proofs.Undeclared.{own-top}
use Rattle.java_env.proofs.members.itself.Goals as goal

pub returns-then-has : goal.returns-then-has
returns-then-has c = own-top c.args.types.now c.args.t c.requires (sym c.has.ensures ∙ c.if-has.true)
