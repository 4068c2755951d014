use Rattle.std.proofs.Common.{◌-◌, length, arith}
use Rattle.java_bind_expr.proofs.Lasts.{take-but_last}
use Rattle.java_bind_expr.proofs.parts.but_last.Goals as goal

pub returns-in-len1-up : goal.returns-in-len1-up
returns-in-len1-up c = take-but_last c.args.names.now (length c.args.names.now - 1) (omega arith)
