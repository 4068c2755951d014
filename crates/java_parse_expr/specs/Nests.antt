-- Function values that parse what is nested, where so much of the depth is left.
use Rattle.std.specs.Prelude.{ℕ, Result}
use Rattle.std.specs.declared.alloc.Global.{Global}
use denote.Ref.{MutBor}
use Rattle.java_expr_reading.specs.declared.fault.ExprFault.{ExprFault}
use Rattle.java_expr_reading.specs.Input.{Input, Parser, Gives}

-- a function value that parses as a reading function, by the depth that is left
pub record ParsesBy {A : Type 0} (read : Parser A) (depth : ℕ) (pre : Global → MutBor Input → ℕ → Type 0)
    (post : Global → MutBor Input → ℕ → Result A ExprFault → MutBor Input → Type 0) : Type 0 where
  pub callable : (alloc : Global) (old : MutBor Input) → pre alloc old depth
  pub gives : (alloc : Global) (old new : MutBor Input) (r : Result A ExprFault) → post alloc old depth r new → Gives (read old.now) r new.now
