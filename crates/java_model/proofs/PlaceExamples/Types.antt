-- Types of expressions.
use Rattle.std.proofs.Common.{◌≡◌, ℕ, List, [], ◌∷◌, Some, None, true, false, codes, refl}
use Rattle.java_tree.specs.declared.expr.Expr.{Expr}
use Rattle.java_tree.specs.declared.expr.Expr.TheVariants as exprs
use Rattle.java_tree.specs.declared.expr.First.TheVariants as firsts
use Rattle.java_tree.specs.declared.expr.Operation.TheVariants as operations
use Rattle.java_tree.specs.declared.names.Literal.TheVariants as literals
use Rattle.java_tree.specs.declared.names.Primitive.{Primitive}
use Rattle.java_tree.specs.declared.names.Primitive.TheVariants as primitives
use Rattle.java_tree.specs.declared.occurrence.Access.TheVariants.{Read}
use Rattle.java_tree.specs.declared.operators.BinaryOp.TheVariants as binaries
use Rattle.java_tree.specs.declared.operators.PrefixOp.TheVariants as prefixes
use Rattle.java_tree.specs.declared.types.JType.{JType}
use Rattle.java_tree.specs.declared.types.JType.TheVariants as types
use Rattle.java_tree.specs.declared.unit.Unit.{Unit as CompilationUnit}
use Rattle.java_model.specs.Names.Environments.{Env, type_id, string}
use Rattle.java_model.specs.Scopes.Contexts.{Context}
use Rattle.java_model.specs.Tree.Nodes as nodes
use Rattle.java_model.specs.Bindings.Arithmetic.{boolean, int, infix_type, prefix_type}
use Rattle.java_model.specs.Bindings.Conditionals.{SignedLiteral, int_value, int_literal, conditional_type}
use Rattle.java_model.specs.Bindings.Chains.{literal_type, class_type}
use Rattle.java_model.specs.Bindings.Values.{node_types}
use Rattle.java_model.proofs.PlaceExamples.Kit.{id, primary, name, top_class, unit_of, alone}
use Rattle.java_model.proofs.PlaceExamples.Outs.{outs}

-- `class A{}class B extends A{}`, with Object and String, which no document declares
abbrev two : CompilationUnit
two = unit_of None [] (top_class (id (codes "A") 6) None 7 [] ∷ top_class (id (codes "B") 15) (Some (id (codes "A") 25 ∷ [])) 26 [] ∷ [])

abbrev C : Context
C = alone two

abbrev E : Env
E = C.env

abbrev the : Primitive → JType
the = types.Primitive

abbrev A : JType
A = types.Class (type_id 0)

abbrev B : JType
B = types.Class (type_id 1)

abbrev text : JType
text = types.Class (string E)

-- a String on a side of `+` makes a String, whatever the other is
joined : infix_type E binaries.Add text types.Unknown ≡ text
joined = refl

joined_behind : infix_type E binaries.Add boolean text ≡ text
joined_behind = refl

-- where a side isn't numeric the type isn't known
no_sum : infix_type E binaries.Add boolean int ≡ types.Unknown
no_sum = refl

no_shift : infix_type E binaries.LeftShift types.Unknown int ≡ types.Unknown
no_shift = refl

-- a shift has the promoted type of its left side
shifted : infix_type E binaries.LeftShift (the primitives.Byte) (the primitives.Long) ≡ int
shifted = refl

widest : infix_type E binaries.Multiply (the primitives.Char) (the primitives.Float) ≡ the primitives.Float
widest = refl

both_boolean : infix_type E binaries.Xor boolean boolean ≡ boolean
both_boolean = refl

bits : infix_type E binaries.And (the primitives.Short) (the primitives.Byte) ≡ int
bits = refl

compared : infix_type E binaries.Less types.Unknown types.Unknown ≡ boolean
compared = refl

no_complement : prefix_type prefixes.Complement text ≡ types.Unknown
no_complement = refl

-- `1 + 1 + ""` goes from left to right, and so does `1 instanceof A == true`
chain : node_types C [] (nodes.expression Read (exprs.Binary (name []) (operations.Infix binaries.Add (name []) ∷ operations.Infix binaries.Add (name []) ∷ [])))
    ((int ∷ []) ∷ (int ∷ []) ∷ (text ∷ []) ∷ []) ≡ text ∷ []
chain = simp outs

-- int literals: decimal, octal and hexadecimal
hexadecimal : int_value (codes "0x1fF") ≡ 511
hexadecimal = refl

octal : int_value (codes "0177") ≡ 127
octal = refl

zero_alone : int_value (codes "0") ≡ 0
zero_alone = refl

decimal : int_value (codes "2147483648") ≡ 2147483648
decimal = refl

abbrev number : List ℕ → Expr
number digits = primary (firsts.Literal (literals.Int digits)) []

abbrev negative : ℕ → SignedLiteral
negative n = record { is_negative = true; value = n }

abbrev positive : ℕ → SignedLiteral
positive n = record { is_negative = false; value = n }

with_a_minus : int_literal (exprs.Prefix prefixes.Minus (number (codes "128"))) ≡ Some (negative 128)
with_a_minus = simp outs

in_parentheses : int_literal (primary (firsts.Parenthesized (number (codes "1"))) []) ≡ None
in_parentheses = simp outs

with_two : int_literal (exprs.Prefix prefixes.Minus (exprs.Prefix prefixes.Minus (number (codes "1")))) ≡ None
with_two = simp outs

-- `c ? b : 127` with a byte b is a byte, with 128 an int
in_range : conditional_type E (the primitives.Byte) None int (Some (positive 127)) ≡ the primitives.Byte
in_range = refl

out_of_range : conditional_type E (the primitives.Byte) None int (Some (positive 128)) ≡ int
out_of_range = refl

lowest : conditional_type E int (Some (negative 128)) (the primitives.Byte) None ≡ the primitives.Byte
lowest = refl

no_negative_char : conditional_type E (the primitives.Char) None int (Some (negative 1)) ≡ int
no_negative_char = refl

byte_and_short : conditional_type E (the primitives.Short) None (the primitives.Byte) None ≡ the primitives.Short
byte_and_short = refl

byte_and_char : conditional_type E (the primitives.Byte) None (the primitives.Char) None ≡ int
byte_and_char = refl

-- null and a reference; two references, of which the one to which the other converts; else Unknown
null_first : conditional_type E types.Null None A None ≡ A
null_first = refl

null_and_number : conditional_type E types.Null None int None ≡ types.Unknown
null_and_number = refl

superclass_first : conditional_type E A None B None ≡ A
superclass_first = refl

superclass_behind : conditional_type E B None A None ≡ A
superclass_behind = refl

-- where both convert, the second
absent_and_class : conditional_type E (types.Absent (codes "X" ∷ [])) None A None ≡ A
absent_and_class = refl

unrelated : conditional_type E text None A None ≡ types.Unknown
unrelated = refl

-- `1L`, `"a"`, and `A.class` where no document declares java.lang.Class
long_literal : literal_type E (literals.Long (codes "1L")) ≡ the primitives.Long
long_literal = refl

string_literal : literal_type E (literals.String (codes "a")) ≡ text
string_literal = refl

class_literal : class_type E ≡ types.Absent (codes "java" ∷ codes "lang" ∷ codes "Class" ∷ [])
class_literal = refl
