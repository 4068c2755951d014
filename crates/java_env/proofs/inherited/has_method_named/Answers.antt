use Rattle.std.proofs.Common.{ap, ◌∙◌}
use Rattle.std.specs.Str.{bytes_eq}
use Rattle.java_env.proofs.Inheriting.{named-otherwise, named-so}
use Rattle.java_env.proofs.inherited.has_method_named.Goals as goal

pub returns-then-eq : goal.returns-then-eq
returns-then-eq c = named-so c.args.env.now c.args.m c.args.t c.args.name.now c.eq.result c.in_ok-had.had (c.eq.ensures ∙ ap (bytes_eq c.args.name.now) c.method_name.ensures) c.if-eq.true c.in_ok-had.ensures

pub returns : goal.returns
returns c = named-otherwise c.args.env.now c.args.m c.args.t c.args.name.now c.eq.result (c.eq.ensures ∙ ap (bytes_eq c.args.name.now) c.method_name.ensures) c.if-eq.false
