use Rattle.java_types.proofs.Numbers.{own_id}
use Rattle.java_env.specs.Walks.{has}
use Rattle.java_env.proofs.Inheriting.{reaches-declared}
use Rattle.java_env.proofs.inherited.has_method.Goals as goal

pub returns : goal.returns
returns c = reaches-declared c.args.env.now c.args.m c.args.t (has c.in_ok-seen.seen) c.contains.result (own_id c.args.env.now) c.requires c.in_ok-seen.ensures c.contains.ensures
