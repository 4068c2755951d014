-- Chains of binary operators, level by level from the tightest on (JLS 15.17 to 15.24).
use Rattle.std.specs.Prelude.{ℕ, zero, suc, []}
use Rattle.java_tree.specs.declared.expr.Expr.{Expr}
use Rattle.java_expr_reading.specs.Input.{Parser, ◌>>=◌, pure, many}
use Rattle.java_expr_reading.specs.Reading.Expressions.{binary, chain_of, operation}
use Rattle.java_expr_reading.specs.Reading.Primaries.{Nest}

module _ (depth_left : ℕ) (N : Nest) where
  -- the operators of the level above a level, behind their first operand
  abbrev pub chain : ℕ → Expr → Parser Expr
  chain below x = many (operation depth_left N (suc below) (binary depth_left N below)) [] >>= λ os. pure (chain_of x os)

  -- those of each level up to a level, behind a unary expression
  unfoldable pub chains : ℕ → Expr → Parser Expr
  chains zero x = pure x
  chains (suc k) x = chains k x >>= chain k
