-- What a tree says of a token. A mark stands for all tokens that are spelled so, wherever they stand.
-- A tree keeps the place of identifiers, of `this` and `super`, and the offset of a `{`.
use Rattle.std.specs.Prelude.{ℕ, List, Option, Some, None, map, cond, codes}
use Rattle.std.specs.Str.{bytes_eq}
use Rattle.java_tree.specs.declared.mark.Mark.{Mark}
use Rattle.java_tree.specs.declared.mark.Mark.TheVariants as marks
use Rattle.java_tree.specs.declared.names.Ident.{Ident}
use Rattle.java_tree.specs.declared.names.Literal.{Literal}
use Rattle.java_tree.specs.declared.names.Literal.TheVariants as literals
use Rattle.java_tree.specs.declared.names.Primitive.{Primitive}
use Rattle.java_tree.specs.declared.names.Primitive.TheVariants as primitives
use Rattle.java_tree.specs.declared.names.Modifier.{Modifier}
use Rattle.java_tree.specs.declared.names.Modifier.TheVariants as modifiers
use Rattle.java_tree.specs.declared.operators.AssignOp.{AssignOp}
use Rattle.java_tree.specs.declared.operators.AssignOp.TheVariants as assigns
use Rattle.java_tree.specs.declared.operators.BinaryOp.{BinaryOp}
use Rattle.java_tree.specs.declared.operators.BinaryOp.TheVariants as binaries
use Rattle.java_tree.specs.declared.operators.PrefixOp.{PrefixOp}
use Rattle.java_tree.specs.declared.operators.PrefixOp.TheVariants as prefixes
use Rattle.java_tree.specs.declared.operators.PostfixOp.{PostfixOp}
use Rattle.java_tree.specs.declared.operators.PostfixOp.TheVariants as postfixes
use Rattle.java_tree.specs.declared.token.Span.{Span}
use Rattle.java_tree.specs.declared.token.Token.{Token}
use Rattle.java_tree.specs.declared.token.TokenKind.{TokenKind}
use Rattle.java_tree.specs.declared.token.TokenKind.TheVariants as kinds
use Rattle.java_model.specs.Grammar.Marks.{mark_of, keywords, symbols}

pub data Sign : Type 0 where
  -- a keyword or a symbol
  mark : Mark → Sign
  -- `{`, with its offset
  left_brace : ℕ → Sign
  -- `this` and `super`, with their span
  this : Span → Sign
  super : Span → Sign
  -- an identifier (JLS 3.8)
  word : Ident → Sign
  -- a literal (JLS 3.10)
  literal : Literal → Sign
  -- a token that stands in no tree
  stray : Sign

-- a mark at its place
abbrev pub placed : Span → Option Mark → Sign
placed span None = stray
placed span (Some marks.LeftBrace) = left_brace span.start
placed span (Some marks.This) = this span
placed span (Some marks.Super) = super span
placed span (Some m) = mark m

-- the boolean literals and the null literal (JLS 3.10.3, 3.10.7), else a keyword
unfoldable pub keyword_sign : List ℕ → Span → Sign
keyword_sign name span =
    cond (bytes_eq (codes "true") name) (literal literals.True) (
    cond (bytes_eq (codes "false") name) (literal literals.False) (
    cond (bytes_eq (codes "null") name) (literal literals.Null) (
    placed span (mark_of keywords name))))

unfoldable pub symbol_sign : List ℕ → Span → Sign
symbol_sign name span = placed span (mark_of symbols name)

abbrev pub sign_by : TokenKind → List ℕ → Span → Sign
sign_by kinds.Identifier name span = word (record { name = name; span = span })
sign_by kinds.Keyword name span = keyword_sign name span
sign_by kinds.IntLit name span = literal (literals.Int name)
sign_by kinds.LongLit name span = literal (literals.Long name)
sign_by kinds.FloatLit name span = literal (literals.Float name)
sign_by kinds.DoubleLit name span = literal (literals.Double name)
sign_by kinds.CharLit name span = literal (literals.Char name)
sign_by kinds.StringLit name span = literal (literals.String name)
sign_by kinds.Symbol name span = symbol_sign name span

-- what a tree says of this token
abbrev pub sign : Token → Sign
sign t = sign_by t.kind t.name t.span

abbrev pub signs : List Token → List Sign
signs = map sign

-- JLS 4.2
abbrev pub primitive_mark : Primitive → Mark
primitive_mark primitives.Boolean = marks.Boolean
primitive_mark primitives.Byte = marks.Byte
primitive_mark primitives.Short = marks.Short
primitive_mark primitives.Char = marks.Char
primitive_mark primitives.Int = marks.Int
primitive_mark primitives.Long = marks.Long
primitive_mark primitives.Float = marks.Float
primitive_mark primitives.Double = marks.Double

-- JLS 8.1.1, 8.3.1, 8.4.3
abbrev pub modifier_mark : Modifier → Mark
modifier_mark modifiers.Abstract = marks.Abstract
modifier_mark modifiers.Final = marks.Final
modifier_mark modifiers.Native = marks.Native
modifier_mark modifiers.Private = marks.Private
modifier_mark modifiers.Protected = marks.Protected
modifier_mark modifiers.Public = marks.Public
modifier_mark modifiers.Static = marks.Static
modifier_mark modifiers.StrictFp = marks.StrictFp
modifier_mark modifiers.Synchronized = marks.Synchronized
modifier_mark modifiers.Transient = marks.Transient
modifier_mark modifiers.Volatile = marks.Volatile

-- JLS 15.26
abbrev pub assign_mark : AssignOp → Mark
assign_mark assigns.Assign = marks.Assign
assign_mark assigns.Multiply = marks.StarAssign
assign_mark assigns.Divide = marks.SlashAssign
assign_mark assigns.Remainder = marks.PercentAssign
assign_mark assigns.Add = marks.PlusAssign
assign_mark assigns.Subtract = marks.MinusAssign
assign_mark assigns.LeftShift = marks.LeftShiftAssign
assign_mark assigns.RightShift = marks.RightShiftAssign
assign_mark assigns.UnsignedRightShift = marks.UnsignedRightShiftAssign
assign_mark assigns.And = marks.AndAssign
assign_mark assigns.Xor = marks.CaretAssign
assign_mark assigns.Or = marks.OrAssign

-- JLS 15.17 to 15.24
abbrev pub binary_mark : BinaryOp → Mark
binary_mark binaries.ConditionalOr = marks.OrOr
binary_mark binaries.ConditionalAnd = marks.AndAnd
binary_mark binaries.Or = marks.Or
binary_mark binaries.Xor = marks.Caret
binary_mark binaries.And = marks.And
binary_mark binaries.Equal = marks.Equal
binary_mark binaries.NotEqual = marks.NotEqual
binary_mark binaries.Less = marks.Less
binary_mark binaries.Greater = marks.Greater
binary_mark binaries.LessEqual = marks.LessEqual
binary_mark binaries.GreaterEqual = marks.GreaterEqual
binary_mark binaries.LeftShift = marks.LeftShift
binary_mark binaries.RightShift = marks.RightShift
binary_mark binaries.UnsignedRightShift = marks.UnsignedRightShift
binary_mark binaries.Add = marks.Plus
binary_mark binaries.Subtract = marks.Minus
binary_mark binaries.Multiply = marks.Star
binary_mark binaries.Divide = marks.Slash
binary_mark binaries.Remainder = marks.Percent

-- JLS 15.15
abbrev pub prefix_mark : PrefixOp → Mark
prefix_mark prefixes.Increment = marks.Increment
prefix_mark prefixes.Decrement = marks.Decrement
prefix_mark prefixes.Plus = marks.Plus
prefix_mark prefixes.Minus = marks.Minus
prefix_mark prefixes.Complement = marks.Tilde
prefix_mark prefixes.Not = marks.Bang

-- JLS 15.14
abbrev pub postfix_mark : PostfixOp → Mark
postfix_mark postfixes.Increment = marks.Increment
postfix_mark postfixes.Decrement = marks.Decrement
