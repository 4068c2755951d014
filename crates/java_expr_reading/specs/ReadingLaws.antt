-- What the functions that read find, as laws.
use Rattle.std.specs.Prelude.{◌≡◌, ◌-◌, ◌≤◌, ℕ, List, drop, length}
use Rattle.java_tree.specs.declared.limits.TheConstants.{MAX_DEPTH}
use Rattle.java_tree.specs.declared.expr.Expr.{Expr}
use Rattle.java_tree.specs.declared.expr.Primary.{Primary}
use Rattle.java_model.specs.Grammar.Signs.{Sign}
use Rattle.java_model.specs.Grammar.Pieces.{deeper}
use Rattle.java_model.specs.Grammar.YieldExpr.{yield_expr, yield_primary}
use Rattle.java_model.specs.Grammar.Runs.{above, holes_of}
use Rattle.java_expr_reading.specs.Input.{Input, Done}
use Rattle.java_expr_reading.specs.Reading.Expressions.{read_goal, read_qualifier}
use Rattle.java_expr_reading.specs.Answers.{GoalStandsAt, AreRunsOf, PrimaryStandsAt, input_at}
use Rattle.java_expr_reading.specs.declared.parsed.Goal.{Goal}

-- An expression that stands at a place is read, up to its end.
abbrev pub ReadsEachExpr : Type 0
ReadsEachExpr =
    (goal : Goal) (tokens : List Sign) (at depth next : ℕ) (x : Expr) → GoalStandsAt goal tokens at depth next x
    → (j : Input) × (read_goal goal (MAX_DEPTH - depth) (input_at tokens at) ≡ Done x j) × (j.rest ≡ drop next tokens)

-- what was read stands there, and its bodies are the runs that were passed
pub record IsReadAt (goal : Goal) (tokens : List Sign) (at depth : ℕ) (x : Expr) (j : Input) : Type 0 where
  pub stands : GoalStandsAt goal tokens at depth j.at x
  pub bodies : AreRunsOf tokens (holes_of (yield_expr x (deeper (above depth)))) j.bodies
  pub rest : j.rest ≡ drop j.at tokens

abbrev pub ReadsNoOther : Type 0
ReadsNoOther =
    (goal : Goal) (tokens : List Sign) (at depth : ℕ) (x : Expr) (j : Input) → at ≤ length tokens
    → read_goal goal (MAX_DEPTH - depth) (input_at tokens at) ≡ Done x j → IsReadAt goal tokens at depth x j

abbrev pub ReadsEachQualifier : Type 0
ReadsEachQualifier =
    (tokens : List Sign) (at depth next : ℕ) (p : Primary) → PrimaryStandsAt tokens at depth next p
    → (j : Input) × (read_qualifier (MAX_DEPTH - depth) (input_at tokens at) ≡ Done p j) × (j.rest ≡ drop next tokens)

pub record IsQualifierReadAt (tokens : List Sign) (at depth : ℕ) (p : Primary) (j : Input) : Type 0 where
  pub stands : PrimaryStandsAt tokens at depth j.at p
  pub bodies : AreRunsOf tokens (holes_of (yield_primary p (above depth))) j.bodies
  pub rest : j.rest ≡ drop j.at tokens

abbrev pub ReadsNoOtherQualifier : Type 0
ReadsNoOtherQualifier =
    (tokens : List Sign) (at depth : ℕ) (p : Primary) (j : Input) → at ≤ length tokens
    → read_qualifier (MAX_DEPTH - depth) (input_at tokens at) ≡ Done p j → IsQualifierReadAt tokens at depth p j
