use Rattle.std.proofs.Common.{◌≡◌, take}
use Rattle.java_model.specs.Outlines.{spelled_name}
use Rattle.java_scope.proofs.type_names.spelled_name.Given as goal

-- the identifiers so far are copied
abbrev pub invariant-loop-ident : goal.invariant-loop-ident
invariant-loop-ident l = l.copies ≡ spelled_name (take l.ident-index l.name)
