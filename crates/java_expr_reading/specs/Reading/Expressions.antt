-- Expressions (JLS 15.14 to 15.27), over what is nested.
use Rattle.std.specs.Prelude.{ℕ, zero, suc, Bool, true, false, not, ◌&&◌, ◌||◌, if◌then◌else◌, List, [], ◌∷◌, Option, Some, None, is_some}
use Rattle.java_tree.specs.declared.mark.Mark.TheVariants as marks
use Rattle.java_tree.specs.declared.names.ElementType.{ElementType}
use Rattle.java_tree.specs.declared.names.ElementType.TheVariants as elements
use Rattle.java_tree.specs.declared.names.TypeUse.{TypeUse}
use Rattle.java_tree.specs.declared.operators.AssignOp.{AssignOp}
use Rattle.java_tree.specs.declared.operators.PostfixOp.{PostfixOp}
use Rattle.java_tree.specs.declared.operators.PrefixOp.{PrefixOp}
use Rattle.java_tree.specs.declared.expr.Expr.{Expr, out-Expr}
use Rattle.java_tree.specs.declared.expr.Expr.TheVariants as exprs
use Rattle.java_tree.specs.declared.expr.Expr.TheOpen.{Expr-F}
use Rattle.java_tree.specs.declared.expr.Operation.{Operation}
use Rattle.java_tree.specs.declared.expr.Operation.TheVariants as operations
use Rattle.java_tree.specs.declared.expr.Primary.{Primary}
use Rattle.java_model.specs.Grammar.Readings.{primitive_of}
use Rattle.java_model.specs.Grammar.Forms.{ExprLayer, is_assignment, is_statement, is_target}
use Rattle.java_expr_reading.specs.Input.{Input, shape, next, looking, left, Done, Fail, Parser, ◌>>=◌, ◌>>◌, pure, fail, take, sees, expect, many}
use Rattle.java_expr_reading.specs.Reading.Names.{◌<$>◌, sees_member, sees_dim, type_use}
use Rattle.java_expr_reading.specs.Reading.Operators.{assign_by, prefix_by, postfix_by, operator_by, begins_operand, ends_by}
use Rattle.java_expr_reading.specs.Reading.Primaries.{Nest, primary, braces_over}
use Rattle.java_expr_reading.specs.Shapes.{is_super}
use Rattle.java_expr_reading.specs.declared.parsed.Goal.{Goal}
use Rattle.java_expr_reading.specs.declared.parsed.Goal.TheVariants as goals
use Rattle.java_expr_reading.specs.declared.operators.Operator.{Operator}
use Rattle.java_expr_reading.specs.declared.operators.Operator.TheVariants as kinds
use Rattle.java_expr_reading.specs.declared.shape.Shape.{Shape}
use Rattle.java_expr_reading.specs.declared.shape.Shape.TheVariants as shapes

-- ---- whether a parenthesis begins a cast, whose name is looked at once more

unfoldable pub skips_names : ℕ → Input → Input
skips_names zero i = i
skips_names (suc n) i = if sees_member i then skips_names n (next (next i)) else i

-- behind the identifiers that follow a dot
unfoldable pub skip_names : Input → Input
skip_names i = skips_names (suc (left i)) i

unfoldable pub skips_dims : ℕ → Input → Input
skips_dims zero i = i
skips_dims (suc n) i = if sees_dim i then skips_dims n (next (next i)) else i

-- behind {'[' ']'}
unfoldable pub skip_dims : Input → Input
skip_dims i = skips_dims (suc (left i)) i

-- `)`, behind which an operand without sign begins
unfoldable pub closes_name : Input → Bool
closes_name i = sees marks.RightParen i && begins_operand (shape (next i))

abbrev pub cast_by : Shape → Input → Bool
cast_by shapes.Word i = closes_name (skip_dims (skip_names i))
cast_by (shapes.Mark m) i = is_some (primitive_of m) && sees marks.RightParen (skip_dims i)
cast_by _ i = false

-- a type in parentheses, and behind a name an operand without sign (JLS 15.16)
unfoldable pub sees_cast : Input → Bool
sees_cast i = sees marks.LeftParen i && cast_by (shape (next i)) (next (next (looking i)))

-- ---- productions

abbrev pub is_named : ElementType → Bool
is_named (elements.Named n) = true
is_named (elements.Primitive p) = false

-- a chain of one level, or its only operand
abbrev pub chain_of : Expr → List Operation → Expr
chain_of x [] = x
chain_of x (o ∷ os) = exprs.Binary x (o ∷ os)

-- an expression that is a target (JLS 15.26)
abbrev pub target_in : ExprLayer → Option Primary
target_in (Expr-F.Postfix p []) = if is_target p then Some p else None
target_in _ = None

unfoldable pub target_of : Expr → Option Primary
target_of x = target_in (out-Expr x)

module _ (depth_left : ℕ) (N : Nest) where
  abbrev pub postfix_at : Option PostfixOp → Parser (Option PostfixOp)
  postfix_at (Some op) = take >> pure (Some op)
  postfix_at None = pure None

  unfoldable pub postfix_op : Parser (Option PostfixOp)
  postfix_op = λ i. postfix_at (postfix_by (shape i)) i

  -- Postfix = Primary {'++' | '--'} (JLS 15.14)
  unfoldable pub postfix : Parser Expr
  postfix = primary depth_left N >>= λ p. many postfix_op [] >>= λ ops. pure (exprs.Postfix p ops)

  unfoldable pub begins_prefix : Input → Bool
  begins_prefix i = is_some (prefix_by (shape i)) || sees_cast i

  -- Unary = Prefix | Postfix (JLS 15.15)
  unfoldable pub unary : Parser Expr
  unary = λ i. if begins_prefix i then N.prefix i else postfix i

  -- Behind a cast to a name no sign begins the operand.
  unfoldable pub cast_operand : TypeUse → Parser Expr
  cast_operand t = λ i. if is_named t.element && not (begins_operand (shape i)) then Fail else ((λ y. exprs.Cast t y) <$> unary) i

  unfoldable pub cast : Parser Expr
  cast = expect marks.LeftParen >> type_use >>= λ t. expect marks.RightParen >> cast_operand t

  abbrev pub prefix_at : Option PrefixOp → Parser Expr
  prefix_at (Some op) = take >> ((λ y. exprs.Prefix op y) <$> unary)
  prefix_at None = cast

  -- Prefix = ('+' | '-' | '++' | '--' | '~' | '!') Unary | Cast
  unfoldable pub prefix_over : Parser Expr
  prefix_over = λ i. prefix_at (prefix_by (shape i)) i

  abbrev pub operation_by : Parser Expr → Operator → Parser (Option Operation)
  operation_by operand (kinds.Infix op) = take >> ((λ y. Some (operations.Infix op y)) <$> operand)
  operation_by operand kinds.InstanceOf = take >> ((λ t. Some (operations.InstanceOf t)) <$> type_use)
  operation_by operand kinds.Other = pure None

  -- an operator of a level, and what stands to its right
  unfoldable pub operation : ℕ → Parser Expr → Parser (Option Operation)
  operation k operand = λ i. operation_by operand (operator_by k (shape i)) i

  -- the ten levels of binary operators (JLS 15.17 to 15.24), and below them Unary
  unfoldable pub binary : ℕ → Parser Expr
  binary zero = unary
  binary (suc k) = binary k >>= λ x. many (operation (suc k) (binary k)) [] >>= λ os. pure (chain_of x os)

  abbrev pub conditional_of : Expr → Expr → Expr → Parser Expr
  conditional_of c y z = if is_assignment z then fail else pure (exprs.Conditional c y z)

  -- behind the `?`
  unfoldable pub choices : Expr → Parser Expr
  choices c = N.expr >>= λ y. expect marks.Colon >> N.expr >>= λ z. conditional_of c y z

  abbrev pub conditional_end : Expr → Parser Expr
  conditional_end c i = if sees marks.Question i then (take >> choices c) i else Done c i

  -- Cond = Or ['?' Expr ':' Expr], whose third part is no assignment (JLS 15.25)
  unfoldable pub conditional : Parser Expr
  conditional = binary 10 >>= conditional_end

  abbrev pub assign_to : AssignOp → Option Primary → Parser Expr
  assign_to op (Some t) = take >> ((λ v. exprs.Assign t op v) <$> N.expr)
  assign_to op None = fail

  abbrev pub assigned : Expr → Option AssignOp → Parser Expr
  assigned x (Some op) = assign_to op (target_of x)
  assigned x None = pure x

  abbrev pub assignment_end : Expr → Parser Expr
  assignment_end x i = assigned x (assign_by (shape i)) i

  -- Expr = Target AssignOp Expr | Cond (JLS 15.26, 15.27)
  unfoldable pub expr_over : Parser Expr
  expr_over = conditional >>= assignment_end

-- ---- the knot: what is nested, by the depth that is left

abbrev pub nest_none : Nest
nest_none = record { expr = fail; prefix = fail; braces = fail }

abbrev pub nest_over : ℕ → Nest → Nest
nest_over depth_left N = record { expr = expr_over depth_left N; prefix = prefix_over depth_left N; braces = braces_over depth_left N }

unfoldable pub read_nest : ℕ → Nest
read_nest zero = nest_none
read_nest (suc d) = nest_over d (read_nest d)

-- an Expr with so much of the depth left outside it
unfoldable pub read_expr : ℕ → Parser Expr
read_expr d = (read_nest d).expr

-- a Primary, where so much of the depth is left around it
unfoldable pub read_primary : ℕ → Parser Primary
read_primary d = primary d (read_nest d)

abbrev pub meets : Goal → Expr → Bool
meets goals.Any x = true
meets goals.Statement x = is_statement x

abbrev pub goal_end : Goal → Expr → Parser Expr
goal_end goal x i = if ends_by (shape i) && meets goal x then Done x i else Fail

-- an expression of the goal, before what may follow one
unfoldable pub read_goal : Goal → ℕ → Parser Expr
read_goal goal d = read_expr d >>= goal_end goal

-- `.` `super` `(`
unfoldable pub sees_super_call : Input → Bool
sees_super_call i = sees marks.Dot i && is_super (shape (next i)) && sees marks.LeftParen (next (next i))

abbrev pub qualifier_end : Primary → Parser Primary
qualifier_end p i = if sees_super_call i then Done p i else Fail

-- a primary expression before the `super` of an explicit constructor call (JLS 8.8.5.1)
unfoldable pub read_qualifier : ℕ → Parser Primary
read_qualifier d = read_primary d >>= qualifier_end
