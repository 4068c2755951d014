-- What the parser answers.
use Rattle.std.specs.Prelude.{◌≡◌, ◌≢◌, ◌≤◌, ◌+◌, ◌-◌, ℕ, Bool, true, false, List, [], ◌∷◌, length, drop, Result, Ok, Err}
use Rattle.java_tree.specs.declared.mark.Mark.TheVariants as marks
use Rattle.java_tree.specs.declared.expr.ArrayInitializer.{ArrayInitializer}
use Rattle.java_tree.specs.declared.expr.Expr.{Expr}
use Rattle.java_tree.specs.declared.expr.Primary.{Primary}
use Rattle.java_model.specs.Grammar.Signs.{Sign, mark, super}
use Rattle.java_model.specs.Grammar.Pieces.{Hole, deeper}
use Rattle.java_model.specs.Grammar.YieldExpr.{yield_expr, yield_primary}
use Rattle.java_model.specs.Grammar.Expressions.{IsPrimary, nested}
use Rattle.java_model.specs.Grammar.Runs.{Reads, above, StandsAt, StatementStandsAt, holes_of, IsRunOf}
use Rattle.java_expr_reading.specs.Input.{Input, Outcome, Done, Fail}
use Rattle.java_expr_reading.specs.declared.parsed.Goal.{Goal}
use Rattle.java_expr_reading.specs.declared.parsed.Goal.TheVariants as goals
use Rattle.java_expr_reading.specs.declared.parsed.PendingBody.{PendingBody}
use Rattle.java_expr_reading.specs.declared.parsed.ParsedArray.{ParsedArray}
use Rattle.java_expr_reading.specs.declared.parsed.ParsedExpr.{ParsedExpr}
use Rattle.java_expr_reading.specs.declared.parsed.ParsedPrimary.{ParsedPrimary}
use Rattle.java_expr_reading.specs.declared.fault.ExprFault.{ExprFault}
use Rattle.java_expr_reading.specs.declared.fault.ExprFault.TheVariants.{NoMemory}

-- an expression of the goal stands from one place up to another
abbrev pub GoalStandsAt : Goal → List Sign → ℕ → ℕ → ℕ → Expr → Type 0
GoalStandsAt goals.Any tokens at depth next x = StandsAt tokens at depth next x
GoalStandsAt goals.Statement tokens at depth next x = StatementStandsAt tokens at depth next x

-- the bodies are the runs of the holes, one for each and in their order
abbrev pub AreRunsOf : List Sign → List Hole → List PendingBody → Type 0
AreRunsOf tokens [] [] = Unit {0}
AreRunsOf tokens (h ∷ hs) (b ∷ bs) = IsRunOf tokens h b.first b.last b.depth × AreRunsOf tokens hs bs
AreRunsOf tokens _ _ = ⊥

-- an expression that was found
pub record IsFound (goal : Goal) (tokens : List Sign) (at depth : ℕ) (found : ParsedExpr) : Type 0 where
  pub stands : GoalStandsAt goal tokens at depth found.next found.expr
  pub bodies : AreRunsOf tokens (holes_of (yield_expr found.expr (deeper (above depth)))) found.bodies

-- what comes where an expression stands: it, up to that place, unless memory ran out
abbrev pub IsThatUnlessMemory : Result ParsedExpr ExprFault → Expr → ℕ → Type 0
IsThatUnlessMemory (Ok found) x next = (found.expr ≡ x) × (found.next ≡ next)
IsThatUnlessMemory (Err e) x next = e ≡ NoMemory

abbrev pub NoneStandsAt : Goal → List Sign → ℕ → ℕ → Type 0
NoneStandsAt goal tokens at depth = (x : Expr) (next : ℕ) → GoalStandsAt goal tokens at depth next x → ⊥

-- how far the steps may rise
abbrev pub CountsSteps : ℕ → ℕ → Result ParsedExpr ExprFault → ℕ → ℕ → Type 0
CountsSteps len at (Ok found) old new = (at ≤ found.next) × (new ≡ old + (found.next - at))
CountsSteps len at (Err e) old new = (old ≤ new) × (new ≤ old + (len - at))

abbrev pub CountsPrimarySteps : ℕ → ℕ → Result ParsedPrimary ExprFault → ℕ → ℕ → Type 0
CountsPrimarySteps len at (Ok found) old new = (at ≤ found.next) × (new ≡ old + (found.next - at))
CountsPrimarySteps len at (Err e) old new = (old ≤ new) × (new ≤ old + (len - at))

-- `.` `super` `(`, behind which the arguments of an explicit constructor call stand (JLS 8.8.5.1)
abbrev pub begins_super_call : List Sign → Bool
begins_super_call (mark marks.Dot ∷ super s ∷ mark marks.LeftParen ∷ ts) = true
begins_super_call _ = false

-- The tokens from one place up to another are a primary expression, with so many counted symbols above
-- the call before whose `super` it stands.
pub record PrimaryStandsAt (tokens : List Sign) (at depth next : ℕ) (p : Primary) : Type 0 where
  pub shape : IsPrimary (nested (256 - depth)) p
  pub reads : Reads (yield_primary p (above depth)) (drop at tokens) (drop next tokens)
  pub ends : begins_super_call (drop next tokens) ≡ true
  pub in_tokens : next ≤ length tokens

pub record IsFoundPrimary (tokens : List Sign) (at depth : ℕ) (found : ParsedPrimary) : Type 0 where
  pub stands : PrimaryStandsAt tokens at depth found.next found.primary
  pub bodies : AreRunsOf tokens (holes_of (yield_primary found.primary (above depth))) found.bodies

abbrev pub IsThatPrimaryUnlessMemory : Result ParsedPrimary ExprFault → Primary → ℕ → Type 0
IsThatPrimaryUnlessMemory (Ok found) p next = (found.primary ≡ p) × (found.next ≡ next)
IsThatPrimaryUnlessMemory (Err e) p next = e ≡ NoMemory

abbrev pub NoPrimaryStandsAt : List Sign → ℕ → ℕ → Type 0
NoPrimaryStandsAt tokens at depth = (p : Primary) (next : ℕ) → PrimaryStandsAt tokens at depth next p → ⊥

-- ---- the same by the function that reads

-- before the token at a place, with no body so far
abbrev pub input_at : List Sign → ℕ → Input
input_at tokens at = record { rest = drop at tokens; at = at; bodies = [] }

abbrev pub IsReadAs : List Sign → Outcome Expr → Result ParsedExpr ExprFault → Type 0
IsReadAs tokens outcome (Ok found) = outcome ≡ Done found.expr (record { rest = drop found.next tokens; at = found.next; bodies = found.bodies })
IsReadAs tokens outcome (Err e) = e ≢ NoMemory → outcome ≡ Fail

abbrev pub IsPrimaryReadAs : List Sign → Outcome Primary → Result ParsedPrimary ExprFault → Type 0
IsPrimaryReadAs tokens outcome (Ok found) = outcome ≡ Done found.primary (record { rest = drop found.next tokens; at = found.next; bodies = found.bodies })
IsPrimaryReadAs tokens outcome (Err e) = e ≢ NoMemory → outcome ≡ Fail

abbrev pub IsArrayReadAs : List Sign → Outcome ArrayInitializer → Result ParsedArray ExprFault → Type 0
IsArrayReadAs tokens outcome (Ok found) = outcome ≡ Done found.array (record { rest = drop found.next tokens; at = found.next; bodies = found.bodies })
IsArrayReadAs tokens outcome (Err e) = e ≢ NoMemory → outcome ≡ Fail

-- how far was read: the place after the tree, or to the end of the tokens
abbrev pub expr_end : Result ParsedExpr ExprFault → ℕ → ℕ
expr_end (Ok found) len = found.next
expr_end (Err e) len = len

abbrev pub primary_end : Result ParsedPrimary ExprFault → ℕ → ℕ
primary_end (Ok found) len = found.next
primary_end (Err e) len = len
