-- Types of unary and binary expressions (JLS 5.6, 15.15, 15.17 to 15.24).
use Rattle.std.specs.Prelude.{Bool, ◌&&◌, ◌||◌, cond}
use Rattle.java_tree.specs.declared.names.Primitive.TheVariants as primitives
use Rattle.java_tree.specs.declared.operators.BinaryOp.{BinaryOp}
use Rattle.java_tree.specs.declared.operators.BinaryOp.TheVariants as binaries
use Rattle.java_tree.specs.declared.operators.PrefixOp.{PrefixOp}
use Rattle.java_tree.specs.declared.operators.PrefixOp.TheVariants as prefixes
use Rattle.java_tree.specs.declared.types.JType.{JType}
use Rattle.java_tree.specs.declared.types.JType.TheVariants as types
use Rattle.java_model.specs.Names.Environments.{Env, string}
use Rattle.java_model.specs.Names.Types.{same_type}

abbrev pub boolean : JType
boolean = types.Primitive primitives.Boolean

abbrev pub int : JType
int = types.Primitive primitives.Int

-- unary numeric promotion, of a type that isn't numeric Unknown (JLS 5.6.1)
abbrev pub promoted : JType → JType
promoted (types.Primitive primitives.Boolean) = types.Unknown
promoted (types.Primitive primitives.Long) = types.Primitive primitives.Long
promoted (types.Primitive primitives.Float) = types.Primitive primitives.Float
promoted (types.Primitive primitives.Double) = types.Primitive primitives.Double
promoted (types.Primitive _) = int
promoted _ = types.Unknown

-- of two promoted types the wider one: double, else float, else long, else int
abbrev pub wider : JType → JType → JType
wider (types.Primitive primitives.Double) (types.Primitive q) = types.Primitive primitives.Double
wider (types.Primitive p) (types.Primitive primitives.Double) = types.Primitive primitives.Double
wider (types.Primitive primitives.Float) (types.Primitive q) = types.Primitive primitives.Float
wider (types.Primitive p) (types.Primitive primitives.Float) = types.Primitive primitives.Float
wider (types.Primitive primitives.Long) (types.Primitive q) = types.Primitive primitives.Long
wider (types.Primitive p) (types.Primitive primitives.Long) = types.Primitive primitives.Long
wider (types.Primitive p) (types.Primitive q) = int
wider _ _ = types.Unknown

-- binary numeric promotion, where a side isn't numeric Unknown (JLS 5.6.2)
abbrev pub both_promoted : JType → JType → JType
both_promoted a b = wider (promoted a) (promoted b)

abbrev pub is_string : Env → JType → Bool
is_string env = same_type (types.Class (string env))

-- `+` (JLS 15.18): a String on a side makes it a String
abbrev pub sum_type : Env → JType → JType → JType
sum_type env a b = cond (is_string env a || is_string env b) (types.Class (string env)) (both_promoted a b)

-- `& ^ |` (JLS 15.22)
abbrev pub bitwise_type : JType → JType → JType
bitwise_type a b = cond (same_type boolean a && same_type boolean b) boolean (both_promoted a b)

-- a binary operator (JLS 15.17 to 15.24)
abbrev pub infix_type : Env → BinaryOp → JType → JType → JType
infix_type env binaries.Or a b = bitwise_type a b
infix_type env binaries.Xor a b = bitwise_type a b
infix_type env binaries.And a b = bitwise_type a b
infix_type env binaries.LeftShift a b = promoted a
infix_type env binaries.RightShift a b = promoted a
infix_type env binaries.UnsignedRightShift a b = promoted a
infix_type env binaries.Add a b = sum_type env a b
infix_type env binaries.Subtract a b = both_promoted a b
infix_type env binaries.Multiply a b = both_promoted a b
infix_type env binaries.Divide a b = both_promoted a b
infix_type env binaries.Remainder a b = both_promoted a b
infix_type env _ a b = boolean

-- a unary operator (JLS 15.15)
abbrev pub prefix_type : PrefixOp → JType → JType
prefix_type prefixes.Increment t = t
prefix_type prefixes.Decrement t = t
prefix_type prefixes.Not t = boolean
prefix_type _ t = promoted t
