-- What the function that reads units finds, as laws.
use Rattle.std.specs.Prelude.{◌≡◌, List, Option, Some, None}
use Rattle.java_tree.specs.declared.unit.Unit.{Unit as CompilationUnit}
use Rattle.java_model.specs.Grammar.Signs.{Sign}
use Rattle.java_model.specs.Grammar.Units.{IsUnitOf}
use Rattle.java_unit_reading.specs.Reading.Expressions.{exprs}
use Rattle.java_unit_reading.specs.Reading.Steps.{Outcome, Done, Fail}
use Rattle.java_unit_reading.specs.Reading.Units.{unit_of}

abbrev pub tree_in : {A : Type 0} → Outcome A → Option A
tree_in (Done x s) = Some x
tree_in Fail = None

-- the unit of tokens, as it is read
unfoldable pub read_unit : List Sign → Option CompilationUnit
read_unit tokens = tree_in (unit_of exprs tokens)

-- Tokens have at most one unit.
abbrev pub AtMostOneUnit : List Sign → Type 0
AtMostOneUnit tokens = (u v : CompilationUnit) → IsUnitOf tokens u → IsUnitOf tokens v → u ≡ v

-- The unit of tokens is read.
abbrev pub ReadsEachUnit : Type 0
ReadsEachUnit = (tokens : List Sign) (u : CompilationUnit) → IsUnitOf tokens u → read_unit tokens ≡ Some u

-- What is read is the unit of the tokens.
abbrev pub ReadsNoOtherUnit : Type 0
ReadsNoOtherUnit = (tokens : List Sign) (u : CompilationUnit) → read_unit tokens ≡ Some u → IsUnitOf tokens u
