-- What the next token is read as.
use Rattle.std.specs.Prelude.{ℕ, ◌==◌, Bool, true, false, if◌then◌else◌, Option, Some, None, is_some}
use Rattle.java_tree.specs.declared.mark.Mark.{Mark}
use Rattle.java_tree.specs.declared.mark.Mark.TheVariants as marks
use Rattle.java_tree.specs.declared.operators.AssignOp.{AssignOp}
use Rattle.java_tree.specs.declared.operators.BinaryOp.{BinaryOp}
use Rattle.java_tree.specs.declared.operators.PrefixOp.{PrefixOp}
use Rattle.java_tree.specs.declared.operators.PostfixOp.{PostfixOp}
use Rattle.java_model.specs.Grammar.Forms.{level, instanceof_level}
use Rattle.java_model.specs.Grammar.Readings.{assign_of, binary_of, prefix_of, postfix_of, primitive_of}
use Rattle.java_model.specs.Grammar.Runs.{ends_expr_at}
use Rattle.java_expr_reading.specs.declared.operators.Operator.{Operator}
use Rattle.java_expr_reading.specs.declared.operators.Operator.TheVariants as operators
use Rattle.java_expr_reading.specs.declared.shape.Shape.{Shape}
use Rattle.java_expr_reading.specs.declared.shape.Shape.TheVariants as shapes

abbrev pub assign_by : Shape → Option AssignOp
assign_by (shapes.Mark m) = assign_of m
assign_by _ = None

abbrev pub prefix_by : Shape → Option PrefixOp
prefix_by (shapes.Mark m) = prefix_of m
prefix_by _ = None

abbrev pub postfix_by : Shape → Option PostfixOp
postfix_by (shapes.Mark m) = postfix_of m
postfix_by _ = None

abbrev pub at_level : ℕ → Option BinaryOp → Operator
at_level k None = operators.Other
at_level k (Some op) = if level op == k then operators.Infix op else operators.Other

abbrev pub operator_at : ℕ → Mark → Operator
operator_at k marks.InstanceOf = if k == instanceof_level then operators.InstanceOf else operators.Other
operator_at k m = at_level k (binary_of m)

-- the operator of this level
abbrev pub operator_by : ℕ → Shape → Operator
operator_by k (shapes.Mark m) = operator_at k m
operator_by k _ = operators.Other

abbrev pub is_operator_at : Mark → Bool
is_operator_at marks.InstanceOf = true
is_operator_at m = is_some (binary_of m)

-- an operator of some level
abbrev pub is_operator : Shape → Bool
is_operator (shapes.Mark m) = is_operator_at m
is_operator _ = false

abbrev pub begins_operand_at : Mark → Bool
begins_operand_at marks.LeftParen = true
begins_operand_at marks.New = true
begins_operand_at marks.Void = true
begins_operand_at marks.Bang = true
begins_operand_at marks.Tilde = true
begins_operand_at m = is_some (primitive_of m)

-- A Unary that doesn't begin with `+`, `-`, `++` or `--` begins with this (JLS 15.16).
abbrev pub begins_operand : Shape → Bool
begins_operand (shapes.Mark m) = begins_operand_at m
begins_operand shapes.This = true
begins_operand shapes.Super = true
begins_operand shapes.Word = true
begins_operand shapes.Literal = true
begins_operand _ = false

-- what may follow an expression
abbrev pub ends_by : Shape → Bool
ends_by (shapes.Mark m) = ends_expr_at m
ends_by shapes.End = true
ends_by _ = false
