-- A mark is read as what yields it.
use Rattle.std.proofs.Common.{◌≡◌, Some, refl}
use Rattle.java_tree.specs.declared.mark.Mark.{Mark}
use Rattle.java_tree.specs.declared.mark.Mark.TheVariants as marks
use Rattle.java_tree.specs.declared.operators.AssignOp.{AssignOp}
use Rattle.java_tree.specs.declared.operators.AssignOp.TheVariants as assigns
use Rattle.java_tree.specs.declared.operators.BinaryOp.{BinaryOp}
use Rattle.java_tree.specs.declared.operators.BinaryOp.TheVariants as binaries
use Rattle.java_tree.specs.declared.operators.PrefixOp.{PrefixOp}
use Rattle.java_tree.specs.declared.operators.PrefixOp.TheVariants as prefixes
use Rattle.java_tree.specs.declared.operators.PostfixOp.{PostfixOp}
use Rattle.java_tree.specs.declared.operators.PostfixOp.TheVariants as postfixes
use Rattle.java_tree.specs.declared.names.Primitive.{Primitive}
use Rattle.java_tree.specs.declared.names.Primitive.TheVariants as primitives
use Rattle.java_tree.specs.declared.names.Modifier.{Modifier}
use Rattle.java_tree.specs.declared.names.Modifier.TheVariants as modifiers
use Rattle.java_model.specs.Grammar.Signs.{assign_mark, binary_mark, prefix_mark, postfix_mark, primitive_mark, modifier_mark}
use Rattle.java_model.specs.Grammar.Readings.{assign_of, binary_of, prefix_of, postfix_of, primitive_of, modifier_of}

pub assign_of-mark : (x : AssignOp) → assign_of (assign_mark x) ≡ Some x
assign_of-mark assigns.Assign = refl
assign_of-mark assigns.Multiply = refl
assign_of-mark assigns.Divide = refl
assign_of-mark assigns.Remainder = refl
assign_of-mark assigns.Add = refl
assign_of-mark assigns.Subtract = refl
assign_of-mark assigns.LeftShift = refl
assign_of-mark assigns.RightShift = refl
assign_of-mark assigns.UnsignedRightShift = refl
assign_of-mark assigns.And = refl
assign_of-mark assigns.Xor = refl
assign_of-mark assigns.Or = refl

pub assign_mark-of : (m : Mark) (x : AssignOp) → assign_of m ≡ Some x → assign_mark x ≡ m
assign_mark-of marks.Assign assigns.Assign e = refl
assign_mark-of marks.StarAssign assigns.Multiply e = refl
assign_mark-of marks.SlashAssign assigns.Divide e = refl
assign_mark-of marks.PercentAssign assigns.Remainder e = refl
assign_mark-of marks.PlusAssign assigns.Add e = refl
assign_mark-of marks.MinusAssign assigns.Subtract e = refl
assign_mark-of marks.LeftShiftAssign assigns.LeftShift e = refl
assign_mark-of marks.RightShiftAssign assigns.RightShift e = refl
assign_mark-of marks.UnsignedRightShiftAssign assigns.UnsignedRightShift e = refl
assign_mark-of marks.AndAssign assigns.And e = refl
assign_mark-of marks.CaretAssign assigns.Xor e = refl
assign_mark-of marks.OrAssign assigns.Or e = refl
assign_mark-of _ _ e = cc

pub binary_of-mark : (x : BinaryOp) → binary_of (binary_mark x) ≡ Some x
binary_of-mark binaries.ConditionalOr = refl
binary_of-mark binaries.ConditionalAnd = refl
binary_of-mark binaries.Or = refl
binary_of-mark binaries.Xor = refl
binary_of-mark binaries.And = refl
binary_of-mark binaries.Equal = refl
binary_of-mark binaries.NotEqual = refl
binary_of-mark binaries.Less = refl
binary_of-mark binaries.Greater = refl
binary_of-mark binaries.LessEqual = refl
binary_of-mark binaries.GreaterEqual = refl
binary_of-mark binaries.LeftShift = refl
binary_of-mark binaries.RightShift = refl
binary_of-mark binaries.UnsignedRightShift = refl
binary_of-mark binaries.Add = refl
binary_of-mark binaries.Subtract = refl
binary_of-mark binaries.Multiply = refl
binary_of-mark binaries.Divide = refl
binary_of-mark binaries.Remainder = refl

pub binary_mark-of : (m : Mark) (x : BinaryOp) → binary_of m ≡ Some x → binary_mark x ≡ m
binary_mark-of marks.OrOr binaries.ConditionalOr e = refl
binary_mark-of marks.AndAnd binaries.ConditionalAnd e = refl
binary_mark-of marks.Or binaries.Or e = refl
binary_mark-of marks.Caret binaries.Xor e = refl
binary_mark-of marks.And binaries.And e = refl
binary_mark-of marks.Equal binaries.Equal e = refl
binary_mark-of marks.NotEqual binaries.NotEqual e = refl
binary_mark-of marks.Less binaries.Less e = refl
binary_mark-of marks.Greater binaries.Greater e = refl
binary_mark-of marks.LessEqual binaries.LessEqual e = refl
binary_mark-of marks.GreaterEqual binaries.GreaterEqual e = refl
binary_mark-of marks.LeftShift binaries.LeftShift e = refl
binary_mark-of marks.RightShift binaries.RightShift e = refl
binary_mark-of marks.UnsignedRightShift binaries.UnsignedRightShift e = refl
binary_mark-of marks.Plus binaries.Add e = refl
binary_mark-of marks.Minus binaries.Subtract e = refl
binary_mark-of marks.Star binaries.Multiply e = refl
binary_mark-of marks.Slash binaries.Divide e = refl
binary_mark-of marks.Percent binaries.Remainder e = refl
binary_mark-of _ _ e = cc

pub prefix_of-mark : (x : PrefixOp) → prefix_of (prefix_mark x) ≡ Some x
prefix_of-mark prefixes.Increment = refl
prefix_of-mark prefixes.Decrement = refl
prefix_of-mark prefixes.Plus = refl
prefix_of-mark prefixes.Minus = refl
prefix_of-mark prefixes.Complement = refl
prefix_of-mark prefixes.Not = refl

pub prefix_mark-of : (m : Mark) (x : PrefixOp) → prefix_of m ≡ Some x → prefix_mark x ≡ m
prefix_mark-of marks.Increment prefixes.Increment e = refl
prefix_mark-of marks.Decrement prefixes.Decrement e = refl
prefix_mark-of marks.Plus prefixes.Plus e = refl
prefix_mark-of marks.Minus prefixes.Minus e = refl
prefix_mark-of marks.Tilde prefixes.Complement e = refl
prefix_mark-of marks.Bang prefixes.Not e = refl
prefix_mark-of _ _ e = cc

pub postfix_of-mark : (x : PostfixOp) → postfix_of (postfix_mark x) ≡ Some x
postfix_of-mark postfixes.Increment = refl
postfix_of-mark postfixes.Decrement = refl

pub postfix_mark-of : (m : Mark) (x : PostfixOp) → postfix_of m ≡ Some x → postfix_mark x ≡ m
postfix_mark-of marks.Increment postfixes.Increment e = refl
postfix_mark-of marks.Decrement postfixes.Decrement e = refl
postfix_mark-of _ _ e = cc

pub primitive_of-mark : (x : Primitive) → primitive_of (primitive_mark x) ≡ Some x
primitive_of-mark primitives.Boolean = refl
primitive_of-mark primitives.Byte = refl
primitive_of-mark primitives.Short = refl
primitive_of-mark primitives.Char = refl
primitive_of-mark primitives.Int = refl
primitive_of-mark primitives.Long = refl
primitive_of-mark primitives.Float = refl
primitive_of-mark primitives.Double = refl

pub primitive_mark-of : (m : Mark) (x : Primitive) → primitive_of m ≡ Some x → primitive_mark x ≡ m
primitive_mark-of marks.Boolean primitives.Boolean e = refl
primitive_mark-of marks.Byte primitives.Byte e = refl
primitive_mark-of marks.Short primitives.Short e = refl
primitive_mark-of marks.Char primitives.Char e = refl
primitive_mark-of marks.Int primitives.Int e = refl
primitive_mark-of marks.Long primitives.Long e = refl
primitive_mark-of marks.Float primitives.Float e = refl
primitive_mark-of marks.Double primitives.Double e = refl
primitive_mark-of _ _ e = cc

pub modifier_of-mark : (x : Modifier) → modifier_of (modifier_mark x) ≡ Some x
modifier_of-mark modifiers.Abstract = refl
modifier_of-mark modifiers.Final = refl
modifier_of-mark modifiers.Native = refl
modifier_of-mark modifiers.Private = refl
modifier_of-mark modifiers.Protected = refl
modifier_of-mark modifiers.Public = refl
modifier_of-mark modifiers.Static = refl
modifier_of-mark modifiers.StrictFp = refl
modifier_of-mark modifiers.Synchronized = refl
modifier_of-mark modifiers.Transient = refl
modifier_of-mark modifiers.Volatile = refl

pub modifier_mark-of : (m : Mark) (x : Modifier) → modifier_of m ≡ Some x → modifier_mark x ≡ m
modifier_mark-of marks.Abstract modifiers.Abstract e = refl
modifier_mark-of marks.Final modifiers.Final e = refl
modifier_mark-of marks.Native modifiers.Native e = refl
modifier_mark-of marks.Private modifiers.Private e = refl
modifier_mark-of marks.Protected modifiers.Protected e = refl
modifier_mark-of marks.Public modifiers.Public e = refl
modifier_mark-of marks.Static modifiers.Static e = refl
modifier_mark-of marks.StrictFp modifiers.StrictFp e = refl
modifier_mark-of marks.Synchronized modifiers.Synchronized e = refl
modifier_mark-of marks.Transient modifiers.Transient e = refl
modifier_mark-of marks.Volatile modifiers.Volatile e = refl
modifier_mark-of _ _ e = cc
