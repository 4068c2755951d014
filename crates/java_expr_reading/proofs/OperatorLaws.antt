-- What the next token is read as, and which token that is.
use Rattle.std.proofs.Common.{◌≡◌, ℕ, Bool, true, false, cond, eqb, Option, Some, None, refl, sym, ap, subst, inl, inr}
use Rattle.std.proofs.lemmas.Bool.{cases_Bool, eqb-true, eq-eqb}
use Rattle.java_tree.specs.declared.mark.Mark.{Mark}
use Rattle.java_tree.specs.declared.mark.Mark.TheVariants as marks
use Rattle.java_tree.specs.declared.operators.AssignOp.{AssignOp}
use Rattle.java_tree.specs.declared.operators.AssignOp.TheVariants as assigns
use Rattle.java_tree.specs.declared.operators.BinaryOp.{BinaryOp}
use Rattle.java_tree.specs.declared.operators.BinaryOp.TheVariants as binaries
use Rattle.java_tree.specs.declared.operators.PrefixOp.{PrefixOp}
use Rattle.java_tree.specs.declared.operators.PrefixOp.TheVariants as prefixes
use Rattle.java_tree.specs.declared.operators.PostfixOp.{PostfixOp}
use Rattle.java_tree.specs.declared.operators.PostfixOp.TheVariants as postfixes
use Rattle.java_model.specs.Grammar.Forms.{level, instanceof_level, is_sign}
use Rattle.java_model.specs.Grammar.Signs.{assign_mark, binary_mark, prefix_mark, postfix_mark}
use Rattle.java_model.specs.Grammar.Readings.{binary_of, prefix_of, primitive_of}
use Rattle.java_model.proofs.Grammar.Readings.{assign_mark-of, binary_mark-of, prefix_mark-of, postfix_mark-of}
use Rattle.std.specs.Prelude.{is_some}
use Rattle.java_expr_reading.specs.Shapes.{same_mark}
use Rattle.java_expr_reading.specs.Reading.Operators.{assign_by, prefix_by, postfix_by, at_level, operator_at, operator_by, begins_operand}
use Rattle.java_expr_reading.specs.declared.operators.Operator.TheVariants as kinds
use Rattle.java_expr_reading.specs.declared.shape.Shape.{Shape}
use Rattle.java_expr_reading.specs.declared.shape.Shape.TheVariants as shapes

pub assign_by-is : (s : Shape) (op : AssignOp) → assign_by s ≡ Some op → s ≡ shapes.Mark (assign_mark op)
assign_by-is (shapes.Mark m) op e = ap (λ x. shapes.Mark x) (sym (assign_mark-of m op e))
assign_by-is _ op e = absurd cc

pub prefix_by-is : (s : Shape) (op : PrefixOp) → prefix_by s ≡ Some op → s ≡ shapes.Mark (prefix_mark op)
prefix_by-is (shapes.Mark m) op e = ap (λ x. shapes.Mark x) (sym (prefix_mark-of m op e))
prefix_by-is _ op e = absurd cc

pub postfix_by-is : (s : Shape) (op : PostfixOp) → postfix_by s ≡ Some op → s ≡ shapes.Mark (postfix_mark op)
postfix_by-is (shapes.Mark m) op e = ap (λ x. shapes.Mark x) (sym (postfix_mark-of m op e))
postfix_by-is _ op e = absurd cc

pub record IsInfix (k : ℕ) (s : Shape) (op : BinaryOp) : Type 0 where
  pub mark : s ≡ shapes.Mark (binary_mark op)
  pub level : level op ≡ k

infix_is : (op other : BinaryOp) → kinds.Infix op ≡ kinds.Infix other → op ≡ other
infix_is op other e = cc

other_is_not_infix : {C : Type 0} (op : BinaryOp) → kinds.Other ≡ kinds.Infix op → C
other_is_not_infix op e = absurd cc

at_level-infix : (k : ℕ) (m : Mark) (o : Option BinaryOp) (op : BinaryOp) → binary_of m ≡ o → at_level k o ≡ kinds.Infix op → IsInfix k (shapes.Mark m) op
at_level-infix k m None op is e = absurd cc
at_level-infix k m (Some x) op is e =
    elim (cases_Bool (eqb (level x) k)) [
      | inl same ↦
          let y : kinds.Infix x ≡ kinds.Infix op = rw same at e in
          subst (λ z. IsInfix k (shapes.Mark m) z) (infix_is x op y) (record { mark = ap (λ z. shapes.Mark z) (sym (binary_mark-of m x is)); level = eqb-true (level x) k same })
      | inr other ↦ other_is_not_infix op (rw other at e)
    ]

instanceof-infix : {C : Type 0} (b : Bool) (op : BinaryOp) → cond b kinds.InstanceOf kinds.Other ≡ kinds.Infix op → C
instanceof-infix true op e = absurd cc
instanceof-infix false op e = absurd cc

operator_at-infix : (k : ℕ) (m : Mark) (op : BinaryOp) → operator_at k m ≡ kinds.Infix op → IsInfix k (shapes.Mark m) op
operator_at-infix k marks.InstanceOf op e = instanceof-infix (eqb k instanceof_level) op e
operator_at-infix k m op e = at_level-infix k m (binary_of m) op refl e

pub operator_by-infix : (k : ℕ) (s : Shape) (op : BinaryOp) → operator_by k s ≡ kinds.Infix op → IsInfix k s op
operator_by-infix k (shapes.Mark m) op e = operator_at-infix k m op e
operator_by-infix k _ op e = other_is_not_infix op e

infix_or_other : {C : Type 0} (b : Bool) (op : BinaryOp) → cond b (kinds.Infix op) kinds.Other ≡ kinds.InstanceOf → C
infix_or_other true op e = absurd cc
infix_or_other false op e = absurd cc

at_level-instanceof : {C : Type 0} (k : ℕ) (o : Option BinaryOp) → at_level k o ≡ kinds.InstanceOf → C
at_level-instanceof k None e = absurd cc
at_level-instanceof k (Some x) e = infix_or_other (eqb (level x) k) x e

pub record IsInstanceOf (k : ℕ) (s : Shape) : Type 0 where
  pub mark : s ≡ shapes.Mark marks.InstanceOf
  pub level : k ≡ instanceof_level

instanceof_level-is : (k : ℕ) (b : Bool) → eqb k instanceof_level ≡ b → cond b kinds.InstanceOf kinds.Other ≡ kinds.InstanceOf → IsInstanceOf k (shapes.Mark marks.InstanceOf)
instanceof_level-is k true is e = record { mark = refl; level = eqb-true k instanceof_level is }
instanceof_level-is k false is e = absurd cc

operator_at-instanceof : (k : ℕ) (m : Mark) → operator_at k m ≡ kinds.InstanceOf → IsInstanceOf k (shapes.Mark m)
operator_at-instanceof k marks.InstanceOf e = instanceof_level-is k (eqb k instanceof_level) refl e
operator_at-instanceof k m e = at_level-instanceof k (binary_of m) e

pub operator_by-instanceof : (k : ℕ) (s : Shape) → operator_by k s ≡ kinds.InstanceOf → IsInstanceOf k s
operator_by-instanceof k (shapes.Mark m) e = operator_at-instanceof k m e
operator_by-instanceof k _ e = absurd cc

-- a sign begins no operand of a cast to a name
pub sign_is_no_operand : (op : PrefixOp) → begins_operand (shapes.Mark (prefix_mark op)) ≡ true → is_sign op ≡ false
sign_is_no_operand prefixes.Increment e = absurd cc
sign_is_no_operand prefixes.Decrement e = absurd cc
sign_is_no_operand prefixes.Plus e = absurd cc
sign_is_no_operand prefixes.Minus e = absurd cc
sign_is_no_operand prefixes.Complement e = refl
sign_is_no_operand prefixes.Not e = refl

-- ---- the same from the operator on

at_level-same : (k : ℕ) (op : BinaryOp) → level op ≡ k → at_level k (Some op) ≡ kinds.Infix op
at_level-same k op e = rw (eq-eqb (level op) k e) refl

pub operator_by-binary : (k : ℕ) (op : BinaryOp) → level op ≡ k → operator_by k (shapes.Mark (binary_mark op)) ≡ kinds.Infix op
operator_by-binary k binaries.ConditionalOr e = at_level-same k binaries.ConditionalOr e
operator_by-binary k binaries.ConditionalAnd e = at_level-same k binaries.ConditionalAnd e
operator_by-binary k binaries.Or e = at_level-same k binaries.Or e
operator_by-binary k binaries.Xor e = at_level-same k binaries.Xor e
operator_by-binary k binaries.And e = at_level-same k binaries.And e
operator_by-binary k binaries.Equal e = at_level-same k binaries.Equal e
operator_by-binary k binaries.NotEqual e = at_level-same k binaries.NotEqual e
operator_by-binary k binaries.Less e = at_level-same k binaries.Less e
operator_by-binary k binaries.Greater e = at_level-same k binaries.Greater e
operator_by-binary k binaries.LessEqual e = at_level-same k binaries.LessEqual e
operator_by-binary k binaries.GreaterEqual e = at_level-same k binaries.GreaterEqual e
operator_by-binary k binaries.LeftShift e = at_level-same k binaries.LeftShift e
operator_by-binary k binaries.RightShift e = at_level-same k binaries.RightShift e
operator_by-binary k binaries.UnsignedRightShift e = at_level-same k binaries.UnsignedRightShift e
operator_by-binary k binaries.Add e = at_level-same k binaries.Add e
operator_by-binary k binaries.Subtract e = at_level-same k binaries.Subtract e
operator_by-binary k binaries.Multiply e = at_level-same k binaries.Multiply e
operator_by-binary k binaries.Divide e = at_level-same k binaries.Divide e
operator_by-binary k binaries.Remainder e = at_level-same k binaries.Remainder e

pub operator_by-relational : (k : ℕ) → k ≡ instanceof_level → operator_by k (shapes.Mark marks.InstanceOf) ≡ kinds.InstanceOf
operator_by-relational k e = rw (eq-eqb k instanceof_level e) refl

-- an operator that is no sign begins an operand
pub no_sign_is_operand : (op : PrefixOp) → is_sign op ≡ false → begins_operand (shapes.Mark (prefix_mark op)) ≡ true
no_sign_is_operand prefixes.Complement e = refl
no_sign_is_operand prefixes.Not e = refl
no_sign_is_operand _ e = absurd cc

pub binary_is_no_operand : (op : BinaryOp) → begins_operand (shapes.Mark (binary_mark op)) ≡ false
binary_is_no_operand binaries.ConditionalOr = refl
binary_is_no_operand binaries.ConditionalAnd = refl
binary_is_no_operand binaries.Or = refl
binary_is_no_operand binaries.Xor = refl
binary_is_no_operand binaries.And = refl
binary_is_no_operand binaries.Equal = refl
binary_is_no_operand binaries.NotEqual = refl
binary_is_no_operand binaries.Less = refl
binary_is_no_operand binaries.Greater = refl
binary_is_no_operand binaries.LessEqual = refl
binary_is_no_operand binaries.GreaterEqual = refl
binary_is_no_operand binaries.LeftShift = refl
binary_is_no_operand binaries.RightShift = refl
binary_is_no_operand binaries.UnsignedRightShift = refl
binary_is_no_operand binaries.Add = refl
binary_is_no_operand binaries.Subtract = refl
binary_is_no_operand binaries.Multiply = refl
binary_is_no_operand binaries.Divide = refl
binary_is_no_operand binaries.Remainder = refl

pub assign_is_no_operand : (op : AssignOp) → begins_operand (shapes.Mark (assign_mark op)) ≡ false
assign_is_no_operand assigns.Assign = refl
assign_is_no_operand assigns.Multiply = refl
assign_is_no_operand assigns.Divide = refl
assign_is_no_operand assigns.Remainder = refl
assign_is_no_operand assigns.Add = refl
assign_is_no_operand assigns.Subtract = refl
assign_is_no_operand assigns.LeftShift = refl
assign_is_no_operand assigns.RightShift = refl
assign_is_no_operand assigns.UnsignedRightShift = refl
assign_is_no_operand assigns.And = refl
assign_is_no_operand assigns.Xor = refl
assign_is_no_operand assigns.Or = refl

pub postfix_is_no_operand : (op : PostfixOp) → begins_operand (shapes.Mark (postfix_mark op)) ≡ false
postfix_is_no_operand postfixes.Increment = refl
postfix_is_no_operand postfixes.Decrement = refl

-- a primitive type begins neither with an operator nor with a parenthesis
pub record IsPlain (m : Mark) : Type 0 where
  pub no_prefix : prefix_of m ≡ None
  pub no_paren : same_mark m marks.LeftParen ≡ false

pub primitive_is_plain : (m : Mark) → is_some (primitive_of m) ≡ true → IsPlain m
unfolding same_mark
primitive_is_plain marks.Boolean e = record { no_prefix = refl; no_paren = refl }
primitive_is_plain marks.Byte e = record { no_prefix = refl; no_paren = refl }
primitive_is_plain marks.Short e = record { no_prefix = refl; no_paren = refl }
primitive_is_plain marks.Char e = record { no_prefix = refl; no_paren = refl }
primitive_is_plain marks.Int e = record { no_prefix = refl; no_paren = refl }
primitive_is_plain marks.Long e = record { no_prefix = refl; no_paren = refl }
primitive_is_plain marks.Float e = record { no_prefix = refl; no_paren = refl }
primitive_is_plain marks.Double e = record { no_prefix = refl; no_paren = refl }
primitive_is_plain _ e = absurd cc
