use Rattle.java_expr_reading.proofs.SignLaws.{no_ident_by}
use Rattle.java_expr_reading.proofs.signs.ident_of.Goals as goal

pub returns-in_default : goal.returns-in_default
returns-in_default c = no_ident_by c.args.token.now.kind c.args.token.now.name c.args.token.now.span c.in_default.not-Identifier
