-- What may follow an expression goes on with none.
use Rattle.std.proofs.Common.{◌≡◌, true, List, [], ◌∷◌, refl}
use Rattle.java_tree.specs.declared.mark.Mark.{Mark}
use Rattle.java_tree.specs.declared.mark.Mark.TheVariants as marks
use Rattle.java_tree.specs.declared.operators.AssignOp.{AssignOp}
use Rattle.java_tree.specs.declared.operators.AssignOp.TheVariants as assigns
use Rattle.java_tree.specs.declared.operators.BinaryOp.{BinaryOp}
use Rattle.java_tree.specs.declared.operators.BinaryOp.TheVariants as binaries
use Rattle.java_tree.specs.declared.operators.PostfixOp.{PostfixOp}
use Rattle.java_tree.specs.declared.operators.PostfixOp.TheVariants as postfixes
use Rattle.java_model.specs.Grammar.Forms.{level}
use Rattle.java_model.specs.Grammar.Signs.{assign_mark, binary_mark, postfix_mark, Sign, mark, left_brace, this, super, word, literal, stray}
use Rattle.java_model.specs.Grammar.Runs.{ends_expr, ends_expr_at}
use Rattle.java_model.specs.Grammar.Follows.{goes_on, goes_on_with}

ends_at : (m : Mark) → ends_expr_at m ≡ true → goes_on_with m ≡ 13
ends_at marks.RightParen h = refl
ends_at marks.RightBracket h = refl
ends_at marks.RightBrace h = refl
ends_at marks.Semicolon h = refl
ends_at marks.Comma h = refl
ends_at marks.Colon h = refl
ends_at _ h = cc

pub ends : (tokens : List Sign) → ends_expr tokens ≡ true → goes_on tokens ≡ 13
ends [] h = refl
ends (mark m ∷ ts) h = ends_at m h
ends (left_brace at ∷ ts) h = cc
ends (this s ∷ ts) h = refl
ends (super s ∷ ts) h = refl
ends (word i ∷ ts) h = refl
ends (literal l ∷ ts) h = refl
ends (stray ∷ ts) h = refl

-- a binary operator goes on at its level
pub goes_on-binary : (op : BinaryOp) → goes_on_with (binary_mark op) ≡ level op
goes_on-binary binaries.ConditionalOr = refl
goes_on-binary binaries.ConditionalAnd = refl
goes_on-binary binaries.Or = refl
goes_on-binary binaries.Xor = refl
goes_on-binary binaries.And = refl
goes_on-binary binaries.Equal = refl
goes_on-binary binaries.NotEqual = refl
goes_on-binary binaries.Less = refl
goes_on-binary binaries.Greater = refl
goes_on-binary binaries.LessEqual = refl
goes_on-binary binaries.GreaterEqual = refl
goes_on-binary binaries.LeftShift = refl
goes_on-binary binaries.RightShift = refl
goes_on-binary binaries.UnsignedRightShift = refl
goes_on-binary binaries.Add = refl
goes_on-binary binaries.Subtract = refl
goes_on-binary binaries.Multiply = refl
goes_on-binary binaries.Divide = refl
goes_on-binary binaries.Remainder = refl

-- an assignment operator goes on with an assignment
pub goes_on-assign : (op : AssignOp) → goes_on_with (assign_mark op) ≡ 12
goes_on-assign assigns.Assign = refl
goes_on-assign assigns.Multiply = refl
goes_on-assign assigns.Divide = refl
goes_on-assign assigns.Remainder = refl
goes_on-assign assigns.Add = refl
goes_on-assign assigns.Subtract = refl
goes_on-assign assigns.LeftShift = refl
goes_on-assign assigns.RightShift = refl
goes_on-assign assigns.UnsignedRightShift = refl
goes_on-assign assigns.And = refl
goes_on-assign assigns.Xor = refl
goes_on-assign assigns.Or = refl

-- an operator behind an operand goes on with that
pub goes_on-postfix : (op : PostfixOp) → goes_on_with (postfix_mark op) ≡ 0
goes_on-postfix postfixes.Increment = refl
goes_on-postfix postfixes.Decrement = refl
