use Rattle.std.proofs.Common.{◌≡◌, map, take}
use Rattle.java_model.specs.Outlines.{import_name}
use Rattle.java_document.proofs.outline.import_names.Given as goal

-- the imports so far are copied
abbrev pub invariant-loop-import : goal.invariant-loop-import
invariant-loop-import l = l.names ≡ map import_name (take l.import-index l.imports)
