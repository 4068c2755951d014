use Rattle.std.proofs.Common.{◌∙◌, sym, ap}
use Rattle.java_model.specs.Grammar.Marks.{symbols, mark_of}
use Rattle.java_model.specs.Grammar.Signs.{placed, sign_by}
use Rattle.java_expr_reading.specs.Shapes.{shape_of}
use Rattle.java_expr_reading.proofs.SignLaws.{symbol_placed}
use Rattle.java_expr_reading.proofs.signs.shape_of.Goals as goal

pub returns-in-Symbol : goal.returns-in-Symbol
returns-in-Symbol c =
    let t = c.args.token.now in
    c.placed_shape.ensures t.span
    ∙ ap (λ o. shape_of (placed t.span o)) (c.symbol_mark.ensures ∙ ap (λ n. mark_of symbols n) c.as_str-in-Symbol.ensures)
    ∙ ap shape_of (symbol_placed t.name t.span)
    ∙ ap (λ k. shape_of (sign_by k t.name t.span)) (sym c.in-Symbol.is)
