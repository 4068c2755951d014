use Rattle.java_overload.proofs.Firsts.{no-signature, one-signature}
use Rattle.java_overload.proofs.choice.have_one_signature.Goals as goal

pub returns-in-Some : goal.returns-in-Some
returns-in-Some c = one-signature c.args.env.now c.args.methods.now c.in-Some.first c.past_first.result.now c.all_alike.result c.in-Some.ensures c.past_first.ensures c.all_alike.ensures

pub returns-in-None : goal.returns-in-None
returns-in-None c = no-signature c.args.env.now c.args.methods.now c.in-None.ensures
