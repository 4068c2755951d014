use Rattle.std.proofs.Common.{sym, ap, ◌∙◌}
use Rattle.java_model.specs.Names.Environments.{same_id}
use Rattle.java_model.specs.Names.Lists.{is_among}
use Rattle.java_supers.proofs.Noting.{one-of-all}
use Rattle.java_supers.proofs.looking.add_one.Goals as goal

pub returns-then-is_among-clause-ok : goal.returns-then-is_among-clause-ok
returns-then-is_among-clause-ok c = λ p.
    one-of-all p c.args.t c.args.types.now (sym (ap (is_among same_id c.args.t) c.as_slice.ensures) ∙ sym c.is_among.ensures ∙ c.if-is_among.true)
