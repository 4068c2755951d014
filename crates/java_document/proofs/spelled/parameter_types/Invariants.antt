use Rattle.std.proofs.Common.{◌≡◌, take}
use Rattle.java_model.specs.Outlines.{parameter_types}
use Rattle.java_document.proofs.spelled.parameter_types.Given as goal

-- the types so far are copied
abbrev pub invariant-loop-parameter : goal.invariant-loop-parameter
invariant-loop-parameter l = l.types ≡ parameter_types (take l.parameter-index l.parameters)
