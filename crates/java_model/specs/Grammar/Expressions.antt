-- The productions of expressions (JLS 15), over what is nested in them. A production asks of a tree
-- that it be made of parts, as an equation, and of each part its own production. Depth: what is nested
-- is an Expression, a unary operator or cast with its operand, or an ArrayInitializer, with one less of the depth left.
use Rattle.std.specs.Prelude.{◌≡◌, ℕ, zero, suc, true, false, List, ◌∷◌, Option, Some, None}
use Rattle.std.specs.List.{AllByRecursion}
use Rattle.java_tree.specs.declared.names.ElementType.{ElementType}
use Rattle.java_tree.specs.declared.names.ElementType.TheVariants as elements
use Rattle.java_tree.specs.declared.names.Ident.{Ident}
use Rattle.java_tree.specs.declared.names.Literal.{Literal}
use Rattle.java_tree.specs.declared.names.Primitive.{Primitive}
use Rattle.java_tree.specs.declared.names.TypeUse.{TypeUse}
use Rattle.java_tree.specs.declared.operators.AssignOp.{AssignOp}
use Rattle.java_tree.specs.declared.operators.BinaryOp.{BinaryOp}
use Rattle.java_tree.specs.declared.operators.PrefixOp.{PrefixOp}
use Rattle.java_tree.specs.declared.operators.PostfixOp.{PostfixOp}
use Rattle.java_tree.specs.declared.token.Span.{Span}
use Rattle.java_tree.specs.declared.expr.Expr.{Expr}
use Rattle.java_tree.specs.declared.expr.Expr.TheVariants as exprs
use Rattle.java_tree.specs.declared.expr.First.{First}
use Rattle.java_tree.specs.declared.expr.First.TheVariants as firsts
use Rattle.java_tree.specs.declared.expr.Initializer.{Initializer}
use Rattle.java_tree.specs.declared.expr.Initializer.TheVariants as initializers
use Rattle.java_tree.specs.declared.expr.Operation.{Operation}
use Rattle.java_tree.specs.declared.expr.Operation.TheVariants as operations
use Rattle.java_tree.specs.declared.expr.Selector.{Selector}
use Rattle.java_tree.specs.declared.expr.Selector.TheVariants as selectors
use Rattle.java_tree.specs.declared.expr.ArrayInitializer.{ArrayInitializer}
use Rattle.java_tree.specs.declared.expr.Creation.{Creation}
use Rattle.java_tree.specs.declared.expr.Primary.{Primary}
use Rattle.java_model.specs.Grammar.Forms.{IsNonEmpty, IsSingle, level, instanceof_level, is_assignment, begins_with_sign, is_target, begins_with_member, begins_with_index}

-- what is nested in an expression: each Expression, each unary operator or cast with its operand, and each ArrayInitializer
pub record Nested : Type 1 where
  pub expr : Expr → Type 0
  pub prefix : Expr → Type 0
  pub braces : ArrayInitializer → Type 0

-- PrimitiveType | Name
abbrev pub IsElement : ElementType → Type 0
IsElement (elements.Primitive p) = Unit {0}
IsElement (elements.Named n) = IsNonEmpty n

-- Type = (PrimitiveType | Name) Dims (JLS 4.1)
abbrev pub IsType : TypeUse → Type 0
IsType t = IsElement t.element

-- a name and a dot that may stand before `super`
abbrev pub IsQualifier : Option (List Ident) → Type 0
IsQualifier None = Unit {0}
IsQualifier (Some n) = IsNonEmpty n

-- Name '(' [ArgumentList] ')' [ClassBody] after 'new' (JLS 15.9)
abbrev pub IsCreation : Nested → Creation → Type 0
IsCreation N c = IsNonEmpty c.class × AllByRecursion N.expr c.arguments

-- the same after a primary expression and a dot, where the name is one identifier (JLS 15.9)
abbrev pub IsInnerCreation : Nested → Creation → Type 0
IsInnerCreation N c = IsSingle c.class × AllByRecursion N.expr c.arguments

-- What a primary expression begins with, other than a name and an array creation without initializer,
-- after which not all selectors may stand.
pub data IsFirst (N : Nested) (f : First) : Type 0 where
  -- JLS 15.8.1
  literal : (l : Literal) → f ≡ firsts.Literal l → IsFirst N f
  -- JLS 15.8.3
  this : (s : Span) → f ≡ firsts.This s → IsFirst N f
  -- JLS 15.8.5
  parenthesized : (x : Expr) → f ≡ firsts.Parenthesized x → N.expr x → IsFirst N f
  -- JLS 15.8.2
  class_literal : (t : TypeUse) → f ≡ firsts.ClassLiteral t → IsType t → IsFirst N f
  void_class : f ≡ firsts.VoidClass → IsFirst N f
  -- JLS 15.8.4
  qualified_this : (n : List Ident) (s : Span) → f ≡ firsts.QualifiedThis n s → IsNonEmpty n → IsFirst N f
  -- JLS 15.11.2
  super_field : (n : Option (List Ident)) (s : Span) (i : Ident) → f ≡ firsts.SuperField n s i → IsQualifier n → IsFirst N f
  -- JLS 15.12
  call : (n : List Ident) (args : List Expr) → f ≡ firsts.Call n args → IsNonEmpty n → AllByRecursion N.expr args → IsFirst N f
  super_call : (n : Option (List Ident)) (s : Span) (i : Ident) (args : List Expr)
      → f ≡ firsts.SuperCall n s i args → IsQualifier n → AllByRecursion N.expr args → IsFirst N f
  -- JLS 15.9
  new : (c : Creation) → f ≡ firsts.New c → IsCreation N c → IsFirst N f
  -- JLS 15.10
  new_array_of : (t : ElementType) (n : ℕ) (b : ArrayInitializer) → f ≡ firsts.NewArrayOf t (suc n) b → IsElement t → N.braces b → IsFirst N f

-- 'new' (PrimitiveType | Name) '[' Expression ']' {'[' Expression ']'} Dims (JLS 15.10)
pub data IsNewArray (N : Nested) (f : First) : Type 0 where
  new_array : (t : ElementType) (size : Expr) (sizes : List Expr) (n : ℕ)
      → f ≡ firsts.NewArray t (size ∷ sizes) n → IsElement t → N.expr size → AllByRecursion N.expr sizes
      → IsNewArray N f

pub data IsSelector (N : Nested) (s : Selector) : Type 0 where
  -- JLS 15.11.1
  field : (i : Ident) → s ≡ selectors.Field i → IsSelector N s
  -- JLS 15.12
  member_call : (i : Ident) (args : List Expr) → s ≡ selectors.MemberCall i args → AllByRecursion N.expr args → IsSelector N s
  -- JLS 15.13
  index : (x : Expr) → s ≡ selectors.Index x → N.expr x → IsSelector N s
  -- JLS 15.9
  qualified_new : (c : Creation) → s ≡ selectors.QualifiedNew c → IsInnerCreation N c → IsSelector N s

-- Primary (JLS 15.8). A name takes as many identifiers as it can, so no `.name` follows it. An array
-- creation without initializer has no index directly after it.
pub data IsPrimary (N : Nested) (p : Primary) : Type 0 where
  primary_of : IsFirst N p.first → AllByRecursion (IsSelector N) p.selectors → IsPrimary N p
  primary_of_name : (n : List Ident) → p.first ≡ firsts.Name n → IsNonEmpty n
      → begins_with_member p.selectors ≡ false → AllByRecursion (IsSelector N) p.selectors → IsPrimary N p
  primary_of_array : IsNewArray N p.first → begins_with_index p.selectors ≡ false → AllByRecursion (IsSelector N) p.selectors → IsPrimary N p

-- PostfixExpression = Primary {'++' | '--'} (JLS 15.14)
pub data IsPostfix (N : Nested) (x : Expr) : Type 0 where
  postfix : (p : Primary) (ops : List PostfixOp) → x ≡ exprs.Postfix p ops → IsPrimary N p → IsPostfix N x

-- UnaryExpression (JLS 15.15)
pub data IsUnary (N : Nested) (x : Expr) : Type 0 where
  a_prefix : N.prefix x → IsUnary N x
  a_postfix : IsPostfix N x → IsUnary N x

-- An operator before a UnaryExpression, or a CastExpression (JLS 15.15, 15.16). After a cast to a
-- name no sign begins the operand: there the name is an operand itself.
pub data IsPrefixOver (N : Nested) (x : Expr) : Type 0 where
  prefix : (op : PrefixOp) (y : Expr) → x ≡ exprs.Prefix op y → IsUnary N y → IsPrefixOver N x
  cast_primitive : (p : Primitive) (n : ℕ) (y : Expr)
      → x ≡ exprs.Cast (record { element = elements.Primitive p; dims = n }) y → IsUnary N y
      → IsPrefixOver N x
  cast_name : (name : List Ident) (n : ℕ) (y : Expr)
      → x ≡ exprs.Cast (record { element = elements.Named name; dims = n }) y → IsNonEmpty name
      → begins_with_sign y ≡ false → IsUnary N y → IsPrefixOver N x

-- an operator of a level, and what stands to its right
pub data IsOperation (k : ℕ) (Operand : Expr → Type 0) (o : Operation) : Type 0 where
  infix_of : (op : BinaryOp) (y : Expr) → o ≡ operations.Infix op y → level op ≡ k → Operand y → IsOperation k Operand o
  instance_of : (t : TypeUse) → o ≡ operations.InstanceOf t → k ≡ instanceof_level → IsType t → IsOperation k Operand o

-- a chain of operators of one level over operands of the next tighter one, or one such operand
pub data IsChain (k : ℕ) (Operand : Expr → Type 0) (x : Expr) : Type 0 where
  chain : (y : Expr) (o : Operation) (os : List Operation) → x ≡ exprs.Binary y (o ∷ os) → Operand y
      → IsOperation k Operand o → AllByRecursion (IsOperation k Operand) os → IsChain k Operand x
  operand : Operand x → IsChain k Operand x

-- the ten levels of binary operators (JLS 15.17 to 15.24), and below them UnaryExpression
unfoldable pub IsBinary : Nested → ℕ → Expr → Type 0
IsBinary N zero = IsUnary N
IsBinary N (suc k) = IsChain (suc k) (IsBinary N k)

-- ConditionalOrExpression (JLS 15.24)
abbrev pub IsOr : Nested → Expr → Type 0
IsOr N = IsBinary N 10

-- ConditionalExpression = ConditionalOrExpression ['?' Expression ':' Expression], whose third part is no assignment (JLS 15.25)
pub data IsConditional (N : Nested) (x : Expr) : Type 0 where
  conditional : (c y z : Expr) → x ≡ exprs.Conditional c y z → IsOr N c → N.expr y → N.expr z → is_assignment z ≡ false → IsConditional N x
  unconditional : IsOr N x → IsConditional N x

-- Expression = LeftHandSide AssignmentOperator Expression | ConditionalExpression (JLS 15.26, 15.27)
pub data IsExprOver (N : Nested) (x : Expr) : Type 0 where
  assign : (t : Primary) (op : AssignOp) (v : Expr) → x ≡ exprs.Assign t op v → IsPrimary N t → is_target t ≡ true → N.expr v → IsExprOver N x
  no_assign : IsConditional N x → IsExprOver N x

-- VariableInitializer = Expression | ArrayInitializer (JLS 8.3, 10.6)
pub data IsInitializer (N : Nested) (i : Initializer) : Type 0 where
  value : (x : Expr) → i ≡ initializers.Value x → N.expr x → IsInitializer N i
  of_array : (b : ArrayInitializer) → i ≡ initializers.Array b → N.braces b → IsInitializer N i

-- ArrayInitializer = '{' [VariableInitializer {',' VariableInitializer}] [','] '}' (JLS 10.6)
abbrev pub IsBracesOver : Nested → ArrayInitializer → Type 0
IsBracesOver N b = AllByRecursion (IsInitializer N) b.elements

-- what is nested where no depth is left
abbrev pub nothing : Nested
nothing = record { expr = λ x. ⊥; prefix = λ x. ⊥; braces = λ b. ⊥ }

-- what is nested where one more of the depth is left
abbrev pub nest : Nested → Nested
nest N = record { expr = IsExprOver N; prefix = IsPrefixOver N; braces = IsBracesOver N }

-- the knot: what is nested, by the depth that is left
unfoldable pub nested : ℕ → Nested
nested zero = nothing
nested (suc d) = nest (nested d)

-- an Expression with so much of the depth left outside it
abbrev pub IsExpr : ℕ → Expr → Type 0
IsExpr d = (nested d).expr
