use Rattle.std.proofs.Common.{◌≡◌, ◌++◌, map, take}
use Rattle.java_model.specs.Outlines.{field_of}
use Rattle.java_document.proofs.members.push_fields.Given as goal

-- the fields so far are copied
abbrev pub invariant-loop-variable : goal.invariant-loop-variable
invariant-loop-variable l = l.fields ≡ l.initial.fields ++ map (field_of l.declared) (take l.variable-index l.declared.variables)
