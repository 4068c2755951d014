-- What a sign is, without what it carries.
use Rattle.std.specs.Prelude.{Bool, true, false, Option, Some, None}
use denote.Enum.Bare.{sameb}
use Rattle.java_tree.specs.contracts.mark.Mark.{the_type}
use Rattle.java_tree.specs.declared.mark.Mark.{Mark}
use Rattle.java_model.specs.Grammar.Signs.{Sign, mark, left_brace, this, super, word, literal, stray}
use Rattle.java_expr_reading.specs.declared.shape.Shape.{Shape}
use Rattle.java_expr_reading.specs.declared.shape.Shape.TheVariants as shapes

abbrev pub shape_of : Sign → Shape
shape_of (mark m) = shapes.Mark m
shape_of (left_brace at) = shapes.LeftBrace
shape_of (this s) = shapes.This
shape_of (super s) = shapes.Super
shape_of (word i) = shapes.Word
shape_of (literal l) = shapes.Literal
shape_of stray = shapes.Stray

abbrev pub shape_by : Option Sign → Shape
shape_by None = shapes.End
shape_by (Some t) = shape_of t

unfoldable pub same_mark : Mark → Mark → Bool
same_mark = sameb the_type

abbrev pub is_mark : Mark → Shape → Bool
is_mark m (shapes.Mark n) = same_mark n m
is_mark m _ = false

abbrev pub is_word : Shape → Bool
is_word shapes.Word = true
is_word _ = false

abbrev pub is_left_brace : Shape → Bool
is_left_brace shapes.LeftBrace = true
is_left_brace _ = false

abbrev pub is_super : Shape → Bool
is_super shapes.Super = true
is_super _ = false
