-- Names and types.
use Rattle.std.specs.Prelude.{ℕ, zero, suc, ◌+◌, Bool, ◌&&◌, if◌then◌else◌, List, [], ◌∷◌, Option, Some, None}
use Rattle.java_tree.specs.declared.mark.Mark.TheVariants as marks
use Rattle.java_tree.specs.declared.names.ElementType.{ElementType}
use Rattle.java_tree.specs.declared.names.ElementType.TheVariants as elements
use Rattle.java_tree.specs.declared.names.Ident.{Ident}
use Rattle.java_tree.specs.declared.names.Primitive.{Primitive}
use Rattle.java_tree.specs.declared.names.TypeUse.{TypeUse}
use Rattle.java_model.specs.Grammar.Readings.{primitive_of}
use Rattle.java_expr_reading.specs.Shapes.{is_word}
use Rattle.java_expr_reading.specs.Input.{Input, shape, next, left, Done, Parser, ◌>>=◌, ◌>>◌, pure, fail, take, sees, ident, many}
use Rattle.java_expr_reading.specs.declared.shape.Shape.{Shape}
use Rattle.java_expr_reading.specs.declared.shape.Shape.TheVariants as shapes

infixr 11 ◌<$>◌
abbrev pub ◌<$>◌ : {A B : Type 0} → (A → B) → Parser A → Parser B
f <$> p = p >>= (λ x. pure (f x))

abbrev pub some : {A : Type 0} → A → Option A
some x = Some x

-- `.` and an identifier
unfoldable pub sees_member : Input → Bool
sees_member i = sees marks.Dot i && is_word (shape (next i))

unfoldable pub dotted_ident : Parser (Option Ident)
dotted_ident = λ i. if sees_member i then (take >> (some <$> ident)) i else Done None i

-- Name = Id {'.' Id}, as many identifiers as there are (JLS 6.2)
unfoldable pub name : Parser (List Ident)
name = ident >>= λ w. many dotted_ident (w ∷ [])

unfoldable pub sees_dim : Input → Bool
sees_dim i = sees marks.LeftBracket i && sees marks.RightBracket (next i)

unfoldable pub dims_from : ℕ → ℕ → Parser ℕ
dims_from zero found = fail
dims_from (suc n) found = λ i. if sees_dim i then dims_from n (found + 1) (next (next i)) else Done found i

-- {'[' ']'}, beside so many (JLS 10.1)
unfoldable pub dims : Parser ℕ
dims = λ i. dims_from (suc (left i)) 0 i

abbrev pub primitive_element : Option Primitive → Parser ElementType
primitive_element (Some p) = take >> pure (elements.Primitive p)
primitive_element None = fail

abbrev pub element_by : Shape → Parser ElementType
element_by shapes.Word = (λ n. elements.Named n) <$> name
element_by (shapes.Mark m) = primitive_element (primitive_of m)
element_by _ = fail

-- Prim | Name
unfoldable pub element : Parser ElementType
element = λ i. element_by (shape i) i

-- Type = (Prim | Name) Dims (JLS 4.1)
unfoldable pub type_use : Parser TypeUse
type_use = element >>= λ e. dims >>= λ n. pure (record { element = e; dims = n })
