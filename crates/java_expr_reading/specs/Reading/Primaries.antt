-- Primary expressions (JLS 15.8), over what is nested.
use Rattle.std.specs.Prelude.{ℕ, Bool, true, false, not, ◌&&◌, ◌||◌, if◌then◌else◌, List, [], ◌∷◌, Option, Some, None}
use Rattle.java_tree.specs.declared.mark.Mark.{Mark}
use Rattle.java_tree.specs.declared.mark.Mark.TheVariants as marks
use Rattle.java_tree.specs.declared.names.ElementType.{ElementType}
use Rattle.java_tree.specs.declared.names.ElementType.TheVariants as elements
use Rattle.java_tree.specs.declared.names.Ident.{Ident}
use Rattle.java_tree.specs.declared.names.Primitive.{Primitive}
use Rattle.java_tree.specs.declared.names.TypeUse.{TypeUse}
use Rattle.java_tree.specs.declared.token.Span.{Span}
use Rattle.java_tree.specs.declared.expr.Expr.{Expr}
use Rattle.java_tree.specs.declared.expr.First.{First, out-First}
use Rattle.java_tree.specs.declared.expr.Expr.TheOpen.{First-F}
use Rattle.java_tree.specs.declared.expr.First.TheVariants as firsts
use Rattle.java_tree.specs.declared.expr.Initializer.{Initializer}
use Rattle.java_tree.specs.declared.expr.Initializer.TheVariants as initializers
use Rattle.java_tree.specs.declared.expr.Selector.{Selector}
use Rattle.java_tree.specs.declared.expr.Selector.TheVariants as selectors
use Rattle.java_tree.specs.declared.expr.ArrayInitializer.{ArrayInitializer}
use Rattle.java_tree.specs.declared.expr.Creation.{Creation}
use Rattle.java_tree.specs.declared.expr.Primary.{Primary}
use Rattle.java_model.specs.Grammar.Forms.{FirstLayer}
use Rattle.java_model.specs.Grammar.Readings.{primitive_of}
use Rattle.java_expr_reading.specs.Shapes.{is_left_brace}
use Rattle.java_expr_reading.specs.Input.{Input, shape, next, Done, Fail, Parser, ◌>>=◌, ◌>>◌, pure, fail, take, sees, expect, ident, a_literal, a_this, a_super, brace, body, many}
use Rattle.java_expr_reading.specs.Reading.Names.{◌<$>◌, some, name, sees_dim, dims, element, type_use}
use Rattle.java_expr_reading.specs.declared.shape.Shape.{Shape}
use Rattle.java_expr_reading.specs.declared.shape.Shape.TheVariants as shapes

-- what is nested in an expression: each Expr, each Prefix and each Braces
pub record Nest : Type 0 where
  pub expr : Parser Expr
  pub prefix : Parser Expr
  pub braces : Parser ArrayInitializer

-- an array creation without initializer
abbrev pub is_new_array_in : FirstLayer → Bool
is_new_array_in (First-F.NewArray type sizes n) = true
is_new_array_in _ = false

abbrev pub is_new_array : First → Bool
is_new_array f = is_new_array_in (out-First f)

abbrev pub class_literal : TypeUse → Parser First
class_literal t = expect marks.Dot >> expect marks.Class >> pure (firsts.ClassLiteral t)

-- with so much of the depth left around the expression
module _ (depth_left : ℕ) (N : Nest) where
  -- a comma, and what follows it
  unfoldable pub comma_expr : Parser (Option Expr)
  comma_expr = λ i. if sees marks.Comma i then (take >> (some <$> N.expr)) i else Done None i

  -- Expr {',' Expr} ')'
  unfoldable pub some_arguments : Parser (List Expr)
  some_arguments = N.expr >>= λ x. many comma_expr (x ∷ []) >>= λ xs. expect marks.RightParen >> pure xs

  abbrev pub arguments_behind : Parser (List Expr)
  arguments_behind = λ i. if sees marks.RightParen i then Done [] (next i) else some_arguments i

  -- Args2 = '(' [Args] ')'
  unfoldable pub arguments : Parser (List Expr)
  arguments = expect marks.LeftParen >> arguments_behind

  abbrev pub sees_size : Input → Bool
  sees_size i = sees marks.LeftBracket i && not (sees marks.RightBracket (next i))

  unfoldable pub in_brackets : Parser Expr
  in_brackets = expect marks.LeftBracket >> N.expr >>= λ x. expect marks.RightBracket >> pure x

  unfoldable pub size : Parser (Option Expr)
  size = λ i. if sees_size i then (some <$> in_brackets) i else Done None i

  -- the body of an anonymous class, if there is one
  unfoldable pub optional_body : Parser (Option ℕ)
  optional_body = λ i. if is_left_brace (shape i) then (some <$> body depth_left) i else Done None i

  -- Args2 [Body], behind the class (JLS 15.9)
  unfoldable pub creation_of : List Ident → Parser Creation
  creation_of n = arguments >>= λ args. optional_body >>= λ b. pure (record { class = n; arguments = args; body = b })

  abbrev pub new_class : ElementType → Parser First
  new_class (elements.Named n) = (λ c. firsts.New c) <$> creation_of n
  new_class (elements.Primitive p) = fail

  unfoldable pub new_array_of : ElementType → Parser First
  new_array_of e = dims >>= λ n. N.braces >>= λ b. pure (firsts.NewArrayOf e n b)

  unfoldable pub new_array : ElementType → Parser First
  new_array e = in_brackets >>= λ s. many size (s ∷ []) >>= λ ss. dims >>= λ n. pure (firsts.NewArray e ss n)

  unfoldable pub new_with : ElementType → Parser First
  new_with e = λ i. if sees_dim i then new_array_of e i else (if sees marks.LeftBracket i then new_array e i else new_class e i)

  -- behind 'new' (JLS 15.9, 15.10)
  unfoldable pub new_first : Parser First
  new_first = element >>= new_with

  abbrev pub super_end : Option (List Ident) → Span → Ident → Parser First
  super_end n s w i = if sees marks.LeftParen i then ((λ args. firsts.SuperCall n s w args) <$> arguments) i else Done (firsts.SuperField n s w) i

  -- 'super' '.' Id, with or without arguments (JLS 15.11.2, 15.12)
  unfoldable pub super_first : Option (List Ident) → Parser First
  super_first n = a_super >>= λ s. expect marks.Dot >> ident >>= λ w. super_end n s w

  -- What may stand behind a name and a dot. A `super` that no dot follows begins the arguments of an
  -- explicit constructor call (JLS 8.8.5.1), which isn't of the primary expression.
  abbrev pub qualified_by : List Ident → Shape → Parser First
  qualified_by n shapes.This = take >> ((λ s. firsts.QualifiedThis n s) <$> a_this)
  qualified_by n shapes.Super = λ i. if sees marks.Dot (next (next i)) then (take >> super_first (Some n)) i else Done (firsts.Name n) i
  qualified_by n (shapes.Mark marks.Class) = class_literal (record { element = elements.Named n; dims = 0 })
  qualified_by n _ = pure (firsts.Name n)

  unfoldable pub qualified_first : List Ident → Parser First
  qualified_first n = λ i. qualified_by n (shape (next i)) i

  abbrev pub array_class : List Ident → Parser First
  array_class n = dims >>= λ k. class_literal (record { element = elements.Named n; dims = k })

  -- behind a name
  unfoldable pub named_first : List Ident → Parser First
  named_first n = λ i.
      if sees marks.LeftParen i then ((λ args. firsts.Call n args) <$> arguments) i
      else (if sees marks.Dot i then qualified_first n i else (if sees_dim i then array_class n i else Done (firsts.Name n) i))

  abbrev pub primitive_first : Option Primitive → Parser First
  primitive_first (Some p) = type_use >>= class_literal
  primitive_first None = fail

  abbrev pub first_at : Mark → Parser First
  first_at marks.LeftParen = take >> N.expr >>= λ x. expect marks.RightParen >> pure (firsts.Parenthesized x)
  first_at marks.New = take >> new_first
  first_at marks.Void = take >> expect marks.Dot >> expect marks.Class >> pure firsts.VoidClass
  first_at m = primitive_first (primitive_of m)

  abbrev pub first_by : Shape → Parser First
  first_by shapes.Literal = (λ l. firsts.Literal l) <$> a_literal
  first_by shapes.This = (λ s. firsts.This s) <$> a_this
  first_by shapes.Super = super_first None
  first_by shapes.Word = name >>= named_first
  first_by (shapes.Mark m) = first_at m
  first_by _ = fail

  -- what a primary expression begins with
  unfoldable pub first : Parser First
  first = λ i. first_by (shape i) i

  abbrev pub member_end : Ident → Parser Selector
  member_end w i = if sees marks.LeftParen i then ((λ args. selectors.MemberCall w args) <$> arguments) i else Done (selectors.Field w) i

  unfoldable pub member : Parser Selector
  member = ident >>= member_end

  unfoldable pub inner_creation : Parser Selector
  inner_creation = ident >>= λ w. (λ c. selectors.QualifiedNew c) <$> creation_of (w ∷ [])

  -- behind a dot
  abbrev pub selector_by : Shape → Parser (Option Selector)
  selector_by shapes.Word = take >> (some <$> member)
  selector_by (shapes.Mark marks.New) = take >> take >> (some <$> inner_creation)
  selector_by _ = pure None

  unfoldable pub selector : Parser (Option Selector)
  selector = λ i.
      if sees marks.LeftBracket i then ((λ x. Some (selectors.Index x)) <$> in_brackets) i
      else (if sees marks.Dot i then selector_by (shape (next i)) i else Done None i)

  -- no index stands directly behind an array creation without initializer
  unfoldable pub selectors_of : First → Parser (List Selector)
  selectors_of f = λ i. if is_new_array f && sees marks.LeftBracket i then Fail else many selector [] i

  -- Primary (JLS 15.8)
  unfoldable pub primary : Parser Primary
  primary = first >>= λ f. selectors_of f >>= λ ss. pure (record { first = f; selectors = ss })

  abbrev pub initializer_by : Bool → Parser Initializer
  initializer_by true = (λ b. initializers.Array b) <$> N.braces
  initializer_by false = (λ x. initializers.Value x) <$> N.expr

  -- Init = Expr | Braces (JLS 8.3, 10.6)
  unfoldable pub initializer : Parser Initializer
  initializer = λ i. initializer_by (is_left_brace (shape i)) i

  abbrev pub sees_more : Input → Bool
  sees_more i = sees marks.Comma i && not (sees marks.RightBrace (next i))

  unfoldable pub comma_initializer : Parser (Option Initializer)
  comma_initializer = λ i. if sees_more i then (take >> (some <$> initializer)) i else Done None i

  unfoldable pub elements_of : Parser (List Initializer)
  elements_of = λ i.
      if sees marks.RightBrace i || sees marks.Comma i then Done [] i
      else (initializer >>= λ x. many comma_initializer (x ∷ [])) i

  unfoldable pub last_comma : Parser Bool
  last_comma = λ i. if sees marks.Comma i then Done true (next i) else Done false i

  -- Braces = '{' [Init {',' Init}] [','] '}' (JLS 10.6)
  unfoldable pub braces_over : Parser ArrayInitializer
  braces_over = brace >>= λ at. elements_of >>= λ xs. last_comma >>= λ c. expect marks.RightBrace >> pure (record { brace = at; elements = xs; comma = c })
