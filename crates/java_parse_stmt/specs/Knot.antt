-- Function values that parse what is nested in statements and members, where so much of the depth is left.
use Rattle.std.specs.Prelude.{◌≤◌, ℕ, Option, Result}
use Rattle.std.specs.declared.alloc.Global.{Global}
use denote.Ref.{MutBor}
use Rattle.java_tree.specs.declared.limits.TheConstants.{MAX_DEPTH}
use Rattle.java_tree.specs.declared.stmt.Stmt.{Stmt}
use Rattle.java_tree.specs.declared.unit.TypePlace.{TypePlace}
use Rattle.java_unit_reading.specs.declared.fault.UnitFault.{UnitFault}
use Rattle.java_unit_reading.specs.Gives.{Gives}
use Rattle.java_unit_reading.specs.Reading.Steps.{State}
use Rattle.java_unit_reading.specs.Reading.Expressions.{exprs}
use Rattle.java_unit_reading.specs.Reading.Nested.{Parts}
use Rattle.java_unit_reading.specs.Reading.Units.{parts}

-- what is read inside, by the depth that is left
abbrev pub inside : ℕ → Parts
inside depth = parts exprs depth

-- function values that parse statements and types as the reading functions do, in the type with a number
pub record ParsesNested (depth : ℕ) (within : Option ℕ)
    (stmt_pre : Global → MutBor State → Option ℕ → ℕ → Type 0)
    (stmt_post : Global → MutBor State → Option ℕ → ℕ → Result Stmt UnitFault → MutBor State → Type 0)
    (type_pre : Global → MutBor State → ℕ → TypePlace → Option ℕ → ℕ → Type 0)
    (type_post : Global → MutBor State → ℕ → TypePlace → Option ℕ → ℕ → Result ℕ UnitFault → MutBor State → Type 0) : Type 0 where
  pub few : depth ≤ MAX_DEPTH
  pub stmt_callable : (alloc : Global) (old : MutBor State) → stmt_pre alloc old within depth
  pub stmt_gives : (alloc : Global) (old new : MutBor State) (r : Result Stmt UnitFault) → stmt_post alloc old within depth r new
      → Gives ((inside depth).stmt within old.now) r new.now
  pub type_callable : (alloc : Global) (old : MutBor State) (left : ℕ) (place : TypePlace) → type_pre alloc old left place within depth
  pub type_gives : (alloc : Global) (old new : MutBor State) (left : ℕ) (place : TypePlace) (r : Result ℕ UnitFault)
      → type_post alloc old left place within depth r new → Gives ((inside depth).type left place within old.now) r new.now
