use Rattle.std.proofs.Common.{codes}
use Rattle.java_model.specs.Grammar.Signs.{keyword_sign}
use Rattle.java_expr_reading.proofs.SignLaws.{same_word, no_literal}
use Rattle.java_expr_reading.proofs.signs.literal_word.Goals as goal

pub returns-else-is_same_word-3-clause-found : goal.returns-else-is_same_word-3-clause-found
unfolding keyword_sign
returns-else-is_same_word-3-clause-found c span =
    let first = same_word (codes "true") c.args.name.now _ _ c.is_same_word.ensures c.if-is_same_word.false in
    let second = same_word (codes "false") c.args.name.now _ _ c.is_same_word-else-is_same_word.ensures c.if-is_same_word-2.false in
    let third = same_word (codes "null") c.args.name.now _ _ c.is_same_word-else-is_same_word-2.ensures c.if-is_same_word-3.false in
    rw (first, second, third) (no_literal span _)
