use Rattle.java_expr_reading.proofs.SignLaws.{no_literal_by}
use Rattle.java_expr_reading.proofs.signs.literal_of.Goals as goal

pub returns-in_default : goal.returns-in_default
returns-in_default c = no_literal_by c.args.token.now.kind c.args.token.now.name c.args.token.now.span c.in_default.not-Keyword
    c.in_default.not-IntLit c.in_default.not-LongLit c.in_default.not-FloatLit c.in_default.not-DoubleLit c.in_default.not-CharLit c.in_default.not-StringLit
