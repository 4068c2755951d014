-- What a function that parses ensures: the outcome of a reading function, unless memory ran out.
use Rattle.std.specs.Prelude.{◌≡◌, ◌≢◌, Result, Ok, Err}
use Rattle.java_expr_reading.specs.declared.fault.ExprFault.{ExprFault}
use Rattle.java_expr_reading.specs.declared.fault.ExprFault.TheVariants as expr_faults
use Rattle.java_unit_reading.specs.declared.fault.UnitFault.{UnitFault}
use Rattle.java_unit_reading.specs.declared.fault.UnitFault.TheVariants.{NoTree, NoMemory}
use Rattle.java_unit_reading.specs.Reading.Steps.{State, Outcome, Done, Fail}

abbrev pub Gives : {A : Type 0} → Outcome A → Result A UnitFault → State → Type 0
Gives outcome (Ok x) new = outcome ≡ Done x new
Gives outcome (Err e) new = e ≢ NoMemory → outcome ≡ Fail

-- where no expression stands, no tree does
abbrev pub unit_fault : ExprFault → UnitFault
unit_fault expr_faults.NoExpr = NoTree
unit_fault expr_faults.NoMemory = NoMemory
