-- The unit of what stands before the end of the tokens, and what a function that parses all of them ensures.
use Rattle.std.specs.Prelude.{◌≡◌, ◌≢◌, cond, List, Option, Some, None, Result, Ok, Err}
use Rattle.java_tree.specs.declared.names.Ident.{Ident}
use Rattle.java_tree.specs.declared.unit.Import.{Import}
use Rattle.java_tree.specs.declared.unit.TopLevel.{TopLevel}
use Rattle.java_tree.specs.declared.unit.Unit.{Unit as CompilationUnit}
use Rattle.java_unit_reading.specs.declared.fault.UnitFault.{UnitFault}
use Rattle.java_unit_reading.specs.declared.fault.UnitFault.TheVariants.{NoMemory}
use Rattle.java_unit_reading.specs.Reading.Steps.{State}
use Rattle.java_unit_reading.specs.Reading.Units.{is_end}

-- the unit, where no token is left
abbrev pub unit_at : Option (List Ident) → List Import → List TopLevel → State → Option CompilationUnit
unit_at package_name imports declarations s =
    cond (is_end s.tokens)
    (Some (record { «package» = package_name; imports = imports; declarations = declarations; types = s.types }))
    None

-- the tree of all tokens, or that they have none, unless memory ran out
abbrev pub GivesTree : {A : Type 0} → Option A → Result A UnitFault → Type 0
GivesTree tree (Ok x) = tree ≡ Some x
GivesTree tree (Err e) = e ≢ NoMemory → tree ≡ None
