use Rattle.std.proofs.Common.{◌≡◌, ◌++◌, Some, map, take}
use Rattle.java_model.specs.Names.Environments.{declared_in}
use Rattle.java_types.specs.Entries.{entry_of}
use Rattle.java_types.proofs.declared_types.add_types.Given as goal

-- the types so far are added
abbrev pub invariant-loop-declared : goal.invariant-loop-declared
invariant-loop-declared l = record {
  counted : l.number ≡ l.declared-index;
  added : l.entries ≡ l.initial.entries ++ map entry_of (declared_in (Some l.document.path) l.document.outline l.first 0 (take l.declared-index l.document.outline.types));
}
