-- How what is nested in statements and members is read: expressions, with the anonymous classes in them,
-- statements and types.
use Rattle.std.specs.Prelude.{ℕ, zero, cond, List, [], ◌∷◌, Option, Some, None}
use Rattle.java_tree.specs.declared.mark.Mark.TheVariants as marks
use Rattle.java_tree.specs.declared.expr.ArrayInitializer.{ArrayInitializer}
use Rattle.java_tree.specs.declared.expr.Expr.{Expr}
use Rattle.java_tree.specs.declared.expr.Initializer.{Initializer}
use Rattle.java_tree.specs.declared.expr.Initializer.TheVariants as initializers
use Rattle.java_tree.specs.declared.expr.Primary.{Primary}
use Rattle.java_tree.specs.declared.stmt.Stmt.{Stmt}
use Rattle.java_tree.specs.declared.unit.TypeDecl.{TypeDecl}
use Rattle.java_tree.specs.declared.unit.TypePlace.{TypePlace}
use Rattle.java_tree.specs.declared.unit.TypePlace.TheVariants as places
use Rattle.java_model.specs.Grammar.Signs.{Sign}
use Rattle.java_model.specs.Grammar.Pieces.{Piece, token, hole, Around, deeper}
use Rattle.java_model.specs.Grammar.YieldExpr.{yield_expr, yield_array}
use Rattle.java_model.specs.Grammar.Forms.{is_statement}
use Rattle.java_model.specs.Grammar.Runs.{after_body}
use Rattle.java_unit_reading.specs.Reading.Steps.{state, Outcome, Done, Fail, Parser, ◌>>=◌, ◌>>◌, pure, choose, sees, sees_brace, expect, introduced, list_from}

-- what a reader of expressions gives: a tree and the tokens behind it, or that none stands there
pub data Found (A : Type 0) : Type 0 where
  Here : A → List Sign → Found A
  Nothing : Found A

-- Readers by the depth that is left, in which the bodies of anonymous classes are passed over: of an
-- Expr, of a Braces, and of a Primary inside an Expr.
pub record Exprs : Type 0 where
  pub expr : ℕ → List Sign → Found Expr
  pub array : ℕ → List Sign → Found ArrayInitializer
  pub primary : ℕ → List Sign → Found Primary

-- Readers of a Stmt in the type with a number, and of a type in a hole with so much of the depth left:
-- the type is known by the offset of the `{` of its body.
pub record Parts : Type 0 where
  pub stmt : Option ℕ → Parser Stmt
  pub type : ℕ → TypePlace → Option ℕ → Parser ℕ

-- the body of an anonymous class that was passed over: the depth that is left, and the tokens from its `{` on
pub record Body : Type 0 where
  pub left : ℕ
  pub tokens : List Sign

-- the bodies in pieces that stand at the head of tokens
abbrev pub bodies_of : List Piece → List Sign → List Body
bodies_of [] ts = []
bodies_of (p ∷ ps) [] = []
bodies_of (token s ∷ ps) (t ∷ ts) = bodies_of ps ts
bodies_of (hole h ∷ ps) (t ∷ ts) = record { left = h.around.left; tokens = t ∷ ts } ∷ bodies_of ps (after_body ts zero)

-- what is around a place with so much of the depth left, as far as expressions are concerned
abbrev pub around : ℕ → Around
around d = record { left = d; within = None; locals = [] }

abbrev pub more_bodies : (List TypeDecl → Option (List TypeDecl)) → Outcome ℕ → Option (List TypeDecl)
more_bodies again (Done at s) = again s.types
more_bodies again Fail = None

abbrev pub behind : {A : Type 0} → A → List Sign → Option (List TypeDecl) → Outcome A
behind x us (Some types) = Done x (state types us)
behind x us None = Fail

module _ (E : Exprs) (P : Parts) (d : ℕ) (w : Option ℕ) where
  -- the bodies that an expression passed over, in order
  unfoldable pub bodies : List Body → List TypeDecl → Option (List TypeDecl)
  bodies [] types = Some types
  bodies (b ∷ bs) types = more_bodies (bodies bs) (P.type b.left places.Anonymous w (state types b.tokens))

  -- a tree, with the bodies that it passed over
  abbrev pub settle : {A : Type 0} → (A → Around → List Piece) → Found A → Parser A
  settle yields (Here x us) s = behind x us (bodies (bodies_of (yields x (around d)) s.tokens) s.types)
  settle yields Nothing s = Fail

  -- Expr (JLS 15.27)
  unfoldable pub expr : Parser Expr
  expr s = settle (λ x a. yield_expr x (deeper a)) (E.expr d s.tokens) s

  -- Braces (JLS 10.6)
  unfoldable pub array : Parser ArrayInitializer
  array s = settle yield_array (E.array d s.tokens) s

  -- StExpr: an expression that may be a statement (JLS 14.8)
  unfoldable pub statement_expr : Parser Expr
  statement_expr = expr >>= λ x s. cond (is_statement x) (Done x s) Fail

  -- Init = Expr | Braces (JLS 8.3, 10.6)
  unfoldable pub initializer : Parser Initializer
  initializer = choose sees_brace (array >>= λ b. pure (initializers.Array b)) (expr >>= λ x. pure (initializers.Value x))

  -- '(' Expr ')'
  unfoldable pub condition : Parser Expr
  condition = expect marks.LeftParen >> (expr >>= λ x. expect marks.RightParen >> pure x)

  unfoldable pub comma_expr : Parser (Option Expr)
  comma_expr = introduced marks.Comma expr

  unfoldable pub comma_statement_expr : Parser (Option Expr)
  comma_statement_expr = introduced marks.Comma statement_expr

  -- Args2 = '(' [Expr {',' Expr}] ')'
  unfoldable pub any_exprs : Parser (List Expr)
  any_exprs = choose (sees marks.RightParen) (pure []) (expr >>= λ x. list_from comma_expr (x ∷ []))

  unfoldable pub arguments : Parser (List Expr)
  arguments = expect marks.LeftParen >> (any_exprs >>= λ xs. expect marks.RightParen >> pure xs)
