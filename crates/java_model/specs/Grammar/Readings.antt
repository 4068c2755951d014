-- What a mark is read as.
use Rattle.std.specs.Prelude.{Option, Some, None}
use Rattle.java_tree.specs.declared.mark.Mark.{Mark}
use Rattle.java_tree.specs.declared.mark.Mark.TheVariants as marks
use Rattle.java_tree.specs.declared.operators.AssignOp.{AssignOp}
use Rattle.java_tree.specs.declared.operators.AssignOp.TheVariants as assigns
use Rattle.java_tree.specs.declared.operators.BinaryOp.{BinaryOp}
use Rattle.java_tree.specs.declared.operators.BinaryOp.TheVariants as binaries
use Rattle.java_tree.specs.declared.operators.PrefixOp.{PrefixOp}
use Rattle.java_tree.specs.declared.operators.PrefixOp.TheVariants as prefixes
use Rattle.java_tree.specs.declared.operators.PostfixOp.{PostfixOp}
use Rattle.java_tree.specs.declared.operators.PostfixOp.TheVariants as postfixes
use Rattle.java_tree.specs.declared.names.Primitive.{Primitive}
use Rattle.java_tree.specs.declared.names.Primitive.TheVariants as primitives
use Rattle.java_tree.specs.declared.names.Modifier.{Modifier}
use Rattle.java_tree.specs.declared.names.Modifier.TheVariants as modifiers

-- JLS 15.26
abbrev pub assign_of : Mark → Option AssignOp
assign_of marks.Assign = Some assigns.Assign
assign_of marks.StarAssign = Some assigns.Multiply
assign_of marks.SlashAssign = Some assigns.Divide
assign_of marks.PercentAssign = Some assigns.Remainder
assign_of marks.PlusAssign = Some assigns.Add
assign_of marks.MinusAssign = Some assigns.Subtract
assign_of marks.LeftShiftAssign = Some assigns.LeftShift
assign_of marks.RightShiftAssign = Some assigns.RightShift
assign_of marks.UnsignedRightShiftAssign = Some assigns.UnsignedRightShift
assign_of marks.AndAssign = Some assigns.And
assign_of marks.CaretAssign = Some assigns.Xor
assign_of marks.OrAssign = Some assigns.Or
assign_of _ = None

-- JLS 15.17 to 15.24
abbrev pub binary_of : Mark → Option BinaryOp
binary_of marks.OrOr = Some binaries.ConditionalOr
binary_of marks.AndAnd = Some binaries.ConditionalAnd
binary_of marks.Or = Some binaries.Or
binary_of marks.Caret = Some binaries.Xor
binary_of marks.And = Some binaries.And
binary_of marks.Equal = Some binaries.Equal
binary_of marks.NotEqual = Some binaries.NotEqual
binary_of marks.Less = Some binaries.Less
binary_of marks.Greater = Some binaries.Greater
binary_of marks.LessEqual = Some binaries.LessEqual
binary_of marks.GreaterEqual = Some binaries.GreaterEqual
binary_of marks.LeftShift = Some binaries.LeftShift
binary_of marks.RightShift = Some binaries.RightShift
binary_of marks.UnsignedRightShift = Some binaries.UnsignedRightShift
binary_of marks.Plus = Some binaries.Add
binary_of marks.Minus = Some binaries.Subtract
binary_of marks.Star = Some binaries.Multiply
binary_of marks.Slash = Some binaries.Divide
binary_of marks.Percent = Some binaries.Remainder
binary_of _ = None

-- JLS 15.15
abbrev pub prefix_of : Mark → Option PrefixOp
prefix_of marks.Increment = Some prefixes.Increment
prefix_of marks.Decrement = Some prefixes.Decrement
prefix_of marks.Plus = Some prefixes.Plus
prefix_of marks.Minus = Some prefixes.Minus
prefix_of marks.Tilde = Some prefixes.Complement
prefix_of marks.Bang = Some prefixes.Not
prefix_of _ = None

-- JLS 15.14
abbrev pub postfix_of : Mark → Option PostfixOp
postfix_of marks.Increment = Some postfixes.Increment
postfix_of marks.Decrement = Some postfixes.Decrement
postfix_of _ = None

-- JLS 4.2
abbrev pub primitive_of : Mark → Option Primitive
primitive_of marks.Boolean = Some primitives.Boolean
primitive_of marks.Byte = Some primitives.Byte
primitive_of marks.Short = Some primitives.Short
primitive_of marks.Char = Some primitives.Char
primitive_of marks.Int = Some primitives.Int
primitive_of marks.Long = Some primitives.Long
primitive_of marks.Float = Some primitives.Float
primitive_of marks.Double = Some primitives.Double
primitive_of _ = None

-- JLS 8.1.1, 8.3.1, 8.4.3
abbrev pub modifier_of : Mark → Option Modifier
modifier_of marks.Abstract = Some modifiers.Abstract
modifier_of marks.Final = Some modifiers.Final
modifier_of marks.Native = Some modifiers.Native
modifier_of marks.Private = Some modifiers.Private
modifier_of marks.Protected = Some modifiers.Protected
modifier_of marks.Public = Some modifiers.Public
modifier_of marks.Static = Some modifiers.Static
modifier_of marks.StrictFp = Some modifiers.StrictFp
modifier_of marks.Synchronized = Some modifiers.Synchronized
modifier_of marks.Transient = Some modifiers.Transient
modifier_of marks.Volatile = Some modifiers.Volatile
modifier_of _ = None
