use Rattle.std.proofs.Common.{◌≡◌, ◌++◌, drop}
use Rattle.java_members.specs.FieldsCalled.{fields_called}
use Rattle.java_members.proofs.finding_fields.fields_called.Given as goal

-- the fields so far, and those that are left
abbrev pub invariant-loop-field : goal.invariant-loop-field
invariant-loop-field l = record {
  place : l.place ≡ l.field-index;
  called : l.called ++ fields_called l.t l.field-index l.name (drop l.field-index l.fields) ≡ fields_called l.t 0 l.name l.fields;
}
