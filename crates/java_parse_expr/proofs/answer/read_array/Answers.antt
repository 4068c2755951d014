use Rattle.java_parse_expr.proofs.AnswerLaws.{array_from_parts}
use Rattle.java_parse_expr.proofs.answer.read_array.Goals as goal

pub returns : goal.returns
returns c =
    let parts = c.into_parts-next.ensures in
    array_from_parts c.args.marked.now c.args.at c.args.depth c.in_ok-array.array c.new-cursor.result _ c.into_parts-next.result.0 c.into_parts-next.result.1 c.requires.place
    c.new-cursor.ensures c.in_ok-array.ensures parts.0 parts.1
