-- The type of `a ? b : c` (JLS 15.25).
use Rattle.std.specs.Prelude.{ℕ, ◌+◌, ◌-◌, ◌*◌, Bool, true, false, ◌&&◌, ◌||◌, nat_le, cond, List, [], ◌∷◌, Option, Some, None, codes, take, drop}
use Rattle.std.specs.Str.{bytes_eq, byte}
use Rattle.java_tree.specs.declared.names.Literal.{Literal}
use Rattle.java_tree.specs.declared.names.Literal.TheVariants as literals
use Rattle.java_tree.specs.declared.names.Primitive.{Primitive}
use Rattle.java_tree.specs.declared.names.Primitive.TheVariants as primitives
use Rattle.java_tree.specs.declared.operators.PostfixOp.{PostfixOp}
use Rattle.java_tree.specs.declared.operators.PrefixOp.TheVariants as prefixes
use Rattle.java_tree.specs.declared.expr.Expr.{Expr, out-Expr}
use Rattle.java_tree.specs.declared.expr.Expr.TheOpen.{Expr-F, First-F}
use Rattle.java_tree.specs.declared.expr.First.{out-First}
use Rattle.java_tree.specs.declared.expr.Selector.{Selector}
use Rattle.java_tree.specs.declared.types.JType.{JType}
use Rattle.java_tree.specs.declared.types.JType.TheVariants as types
use Rattle.java_model.specs.Grammar.Forms.{ExprLayer, FirstLayer}
use Rattle.java_model.specs.Names.Environments.{Env}
use Rattle.java_model.specs.Names.Types.{same_type}
use Rattle.java_model.specs.Names.Conversions.{converts}
use Rattle.java_model.specs.Bindings.Arithmetic.{both_promoted}

-- the number that a digit stands for (JLS 3.10.1)
abbrev pub digit_value : ℕ → ℕ
digit_value c = cond (nat_le (byte "a") c) (c - byte "a" + 10) (cond (nat_le (byte "A") c) (c - byte "A" + 10) (c - byte "0"))

abbrev pub digits_value : ℕ → ℕ → List ℕ → ℕ
digits_value base value [] = value
digits_value base value (c ∷ cs) = digits_value base (base * value + digit_value c) cs

abbrev pub is_hexadecimal : List ℕ → Bool
is_hexadecimal text = bytes_eq (take 2 text) (codes "0x") || bytes_eq (take 2 text) (codes "0X")

-- an int literal: hexadecimal, octal or decimal (JLS 3.10.1)
abbrev pub int_value : List ℕ → ℕ
int_value text =
    cond (is_hexadecimal text) (digits_value 16 0 (drop 2 text))
    (cond (bytes_eq (take 1 text) (codes "0")) (digits_value 8 0 text) (digits_value 10 0 text))

-- an int literal, with a minus before it or without
pub record SignedLiteral : Type 0 where
  pub is_negative : Bool
  pub value : ℕ

abbrev pub literal_number : Bool → Literal → Option SignedLiteral
literal_number is_negative (literals.Int text) = Some (record { is_negative = is_negative; value = int_value text })
literal_number is_negative _ = None

abbrev pub first_number : Bool → FirstLayer → List Selector → List PostfixOp → Option SignedLiteral
first_number is_negative (First-F.Literal l) [] [] = literal_number is_negative l
first_number is_negative _ _ _ = None

abbrev pub unsigned_number : Bool → ExprLayer → Option SignedLiteral
unsigned_number is_negative (Expr-F.Postfix p ops) = first_number is_negative (out-First p.first) p.selectors ops
unsigned_number is_negative _ = None

-- An int literal in parentheses, or after two signs, is none.
abbrev pub signed_number : ExprLayer → Option SignedLiteral
signed_number (Expr-F.Prefix prefixes.Minus x) = unsigned_number true (out-Expr x)
signed_number layer = unsigned_number false layer

abbrev pub int_literal : Expr → Option SignedLiteral
int_literal x = signed_number (out-Expr x)

-- whether a byte, a short or a char has that value (JLS 4.2.1)
abbrev pub is_in_range : Primitive → SignedLiteral → Bool
is_in_range primitives.Byte n = nat_le n.value (cond n.is_negative 128 127)
is_in_range primitives.Short n = nat_le n.value (cond n.is_negative 32768 32767)
is_in_range primitives.Char n = nat_le n.value (cond n.is_negative 0 65535)
is_in_range _ n = false

abbrev pub fits_into : JType → Option SignedLiteral → Bool
fits_into (types.Primitive p) (Some n) = is_in_range p n
fits_into _ _ = false

abbrev pub are_byte_and_short : JType → JType → Bool
are_byte_and_short (types.Primitive primitives.Byte) (types.Primitive primitives.Short) = true
are_byte_and_short (types.Primitive primitives.Short) (types.Primitive primitives.Byte) = true
are_byte_and_short _ _ = false

abbrev pub is_reference : JType → Bool
is_reference (types.Class t) = true
is_reference (types.Absent n) = true
is_reference (types.Array e n) = true
is_reference _ = false

-- two references: the one to which the other converts, the second where both do
abbrev pub common_reference : Env → JType → JType → JType
common_reference env a b = cond (converts env a b) b (cond (converts env b a) a types.Unknown)

-- neither equal types nor a literal that takes the other's type
abbrev pub common_type : Env → JType → JType → JType
common_type env (types.Primitive p) (types.Primitive q) = both_promoted (types.Primitive p) (types.Primitive q)
common_type env types.Null b = cond (is_reference b) b types.Unknown
common_type env a types.Null = cond (is_reference a) a types.Unknown
common_type env a b = cond (is_reference a && is_reference b) (common_reference env a b) types.Unknown

-- Equal types give that type; a byte and a short a short; a byte, short or char and an int literal in its range that
-- type.
abbrev pub conditional_type : Env → JType → Option SignedLiteral → JType → Option SignedLiteral → JType
conditional_type env a m b n =
    cond (same_type a b) a
    (cond (are_byte_and_short a b) (types.Primitive primitives.Short)
    (cond (fits_into a n) a (cond (fits_into b m) b (common_type env a b))))
