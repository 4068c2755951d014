-- Where the parser takes a token, one is left; and what an operator with its operand gives.
use Rattle.std.proofs.Common.{◌≡◌, ◌≢◌, ℕ, ◌&&◌, not, List, [], ◌∷◌, drop, Some, refl, ap, sym, ◌∙◌, true}
use Rattle.java_tree.specs.declared.expr.Expr.{Expr}
use Rattle.java_tree.specs.declared.expr.Operation.TheVariants as operations
use Rattle.java_tree.specs.declared.mark.Mark.TheVariants as marks
use Rattle.java_tree.specs.declared.operators.BinaryOp.{BinaryOp}
use Rattle.java_model.specs.Grammar.Signs.{Sign, mark, left_brace, this, super, word, literal, stray}
use Rattle.java_expr_reading.specs.Shapes.{shape_by}
use Rattle.java_expr_reading.specs.Input.{Input, Parser, Done, Fail, looking, first_of, sign, shape, sees, next}
use Rattle.java_expr_reading.specs.Reading.Operators.{operator_by}
use Rattle.java_expr_reading.specs.Reading.Primaries.{Nest}
use Rattle.java_expr_reading.specs.Reading.Expressions.{operation}
use Rattle.java_expr_reading.specs.declared.operators.Operator.{Operator}
use Rattle.java_expr_reading.specs.declared.operators.Operator.TheVariants as kinds
use Rattle.java_expr_reading.specs.declared.shape.Shape.{Shape}
use Rattle.java_expr_reading.specs.declared.shape.Shape.TheVariants as shapes
use Rattle.java_expr_reading.proofs.Seen.{and_first, sees_some}

pub more_some : (i : Input) → (sees marks.Comma i && not (sees marks.RightBrace (next i))) ≡ true → shape i ≢ shapes.End
more_some i e = sees_some marks.Comma i (and_first _ _ e)

shape_next : (ts : List Sign) → shape_by (first_of (drop 1 ts)) ≢ shapes.End → shape_by (first_of ts) ≢ shapes.End
shape_next [] n = n
shape_next (mark m ∷ ts) n = λ e. absurd cc
shape_next (left_brace at ∷ ts) n = λ e. absurd cc
shape_next (this s ∷ ts) n = λ e. absurd cc
shape_next (super s ∷ ts) n = λ e. absurd cc
shape_next (word w ∷ ts) n = λ e. absurd cc
shape_next (literal l ∷ ts) n = λ e. absurd cc
shape_next (stray ∷ ts) n = λ e. absurd cc

second_some : (i : Input) → shape (next i) ≢ shapes.End → shape i ≢ shapes.End
unfolding sign next
second_some i n = shape_next i.rest n

pub second_this : (i : Input) → shape (next i) ≡ shapes.This → shape i ≢ shapes.End
second_this i e = second_some i (λ f. absurd cc)

pub second_super : (i : Input) → shape (next i) ≡ shapes.Super → shape i ≢ shapes.End
second_super i e = second_some i (λ f. absurd cc)

-- ---- looking ahead

pub shape_looking : (i : Input) → shape (next (looking i)) ≡ shape (next i)
unfolding looking next sign
shape_looking i = refl

pub looking_some : (i : Input) → sees marks.LeftParen i ≡ true → shape (looking i) ≢ shapes.End
unfolding looking sign
looking_some i e = sees_some marks.LeftParen i e

-- ---- operators

module _ (depth_left : ℕ) (N : Nest) (k : ℕ) (operand : Parser Expr) (i : Input) (op : BinaryOp) where
  pub infix_done : (y : Expr) (j : Input) → operator_by k (shape i) ≡ kinds.Infix op → operand (next i) ≡ Done y j
      → operation depth_left N k operand i ≡ Done (Some (operations.Infix op y)) j
  unfolding operation
  infix_done y j e f = rw e (rw f refl)

  pub infix_fails : operator_by k (shape i) ≡ kinds.Infix op → operand (next i) ≡ Fail → operation depth_left N k operand i ≡ Fail
  unfolding operation
  infix_fails e f = rw e (rw f refl)

pub infix_of : (k n : ℕ) (s t : Shape) (found : Operator) (op : BinaryOp) → found ≡ operator_by k s → k ≡ n → s ≡ t → found ≡ kinds.Infix op
    → operator_by n t ≡ kinds.Infix op
infix_of k n s t found op e f g h = ap (λ m. operator_by m t) (sym f) ∙ ap (λ x. operator_by k x) (sym g) ∙ sym e ∙ h
