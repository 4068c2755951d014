-- Where a token is seen, one is left.
use Rattle.std.proofs.Common.{◌≡◌, ◌≢◌, Bool, true, false, ◌&&◌, refl}
use Rattle.java_tree.specs.declared.mark.Mark.{Mark}
use Rattle.java_tree.specs.declared.mark.Mark.TheVariants as marks
use Rattle.java_expr_reading.specs.Shapes.{is_mark, is_word}
use Rattle.java_expr_reading.specs.Input.{Input, shape, sees, next}
use Rattle.java_expr_reading.specs.Reading.Names.{sees_member, sees_dim}
use Rattle.java_expr_reading.specs.declared.shape.Shape.{Shape}
use Rattle.java_expr_reading.specs.declared.shape.Shape.TheVariants as shapes

and_second : (a b : Bool) → a && b ≡ true → b ≡ true
and_second true b e = e
and_second false b e = absurd cc

pub and_first : (a b : Bool) → a && b ≡ true → a ≡ true
and_first true b e = refl
and_first false b e = e

mark_some : (m : Mark) (s : Shape) → is_mark m s ≡ true → s ≢ shapes.End
mark_some m shapes.End e = λ f. absurd cc
mark_some m (shapes.Mark n) e = λ f. absurd cc
mark_some m shapes.LeftBrace e = λ f. absurd cc
mark_some m shapes.This e = λ f. absurd cc
mark_some m shapes.Super e = λ f. absurd cc
mark_some m shapes.Word e = λ f. absurd cc
mark_some m shapes.Literal e = λ f. absurd cc
mark_some m shapes.Stray e = λ f. absurd cc

pub sees_some : (m : Mark) (i : Input) → sees m i ≡ true → shape i ≢ shapes.End
unfolding sees
sees_some m i e = mark_some m (shape i) e

pub member_some : (i : Input) → sees_member i ≡ true → shape i ≢ shapes.End
unfolding sees_member
member_some i e = sees_some marks.Dot i (and_first _ _ e)

pub dim_second : (i : Input) → sees_dim i ≡ true → shape (next i) ≢ shapes.End
unfolding sees_dim
dim_second i e = sees_some marks.RightBracket (next i) (and_second _ _ e)

pub dim_some : (i : Input) → sees_dim i ≡ true → shape i ≢ shapes.End
unfolding sees_dim
dim_some i e = sees_some marks.LeftBracket i (and_first _ _ e)

word_some : (s : Shape) → is_word s ≡ true → s ≢ shapes.End
word_some shapes.End e = λ f. absurd cc
word_some (shapes.Mark n) e = λ f. absurd cc
word_some shapes.LeftBrace e = λ f. absurd cc
word_some shapes.This e = λ f. absurd cc
word_some shapes.Super e = λ f. absurd cc
word_some shapes.Word e = λ f. absurd cc
word_some shapes.Literal e = λ f. absurd cc
word_some shapes.Stray e = λ f. absurd cc

pub member_second : (i : Input) → sees_member i ≡ true → shape (next i) ≢ shapes.End
unfolding sees_member
member_second i e = word_some (shape (next i)) (and_second _ _ e)
