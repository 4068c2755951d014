use Rattle.std.proofs.Common.{◌∙◌, ◌∷◌, [], ap, arith}
use Rattle.java_model.specs.Grammar.Marks.{symbols, mark_of}
use Rattle.java_expr_reading.proofs.InitialLaws.{one_byte, longer_symbol}
use Rattle.java_expr_reading.proofs.signs.symbol_mark.Goals as goal

pub returns-then-name-eq1 : goal.returns-then-name-eq1
returns-then-name-eq1 c =
    c.single_mark.ensures ∙ ap (λ b. mark_of symbols (b ∷ [])) c.first_byte.ensures ∙ ap (mark_of symbols) (one_byte c.args.name.now (omega arith))

pub returns-else-name-eq1 : goal.returns-else-name-eq1
returns-else-name-eq1 c = longer_symbol c.args.name.now _ (λ e. omega arith) c.mark_in.ensures
