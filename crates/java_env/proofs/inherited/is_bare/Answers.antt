use Rattle.std.proofs.Common.{sym, subst}
use Rattle.java_types.specs.Entries.{has_no_document}
use Rattle.java_env.proofs.Undeclared.{not-bare}
use Rattle.java_env.proofs.inherited.is_bare.Goals as goal

pub returns-in-None : goal.returns-in-None
returns-in-None c = sym (not-bare c.args.env.now c.args.t (subst (λ e. has_no_document e c.args.t) c.types.ensures c.in-None.ensures))
