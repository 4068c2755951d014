use Rattle.std.proofs.Common.{◌-◌, [], length, ◌∙◌, arith}
use Rattle.java_bind_expr.proofs.Lasts.{get_or-last_or}
use Rattle.java_bind_expr.proofs.parts.last_name.Goals as goal

pub returns-in-len1-up : goal.returns-in-len1-up
returns-in-len1-up c =
    c.as_str.ensures ∙ c.last-item.is
    ∙ get_or-last_or [] c.last-item.result c.args.names.now (length c.args.names.now - 1) (omega arith)
