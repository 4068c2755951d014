use Rattle.std.proofs.Common.{◌≡◌, take}
use Rattle.java_model.specs.Outlines.{spelled_names}
use Rattle.java_document.proofs.spelled.spelled_names.Given as goal

-- the names so far are copied
abbrev pub invariant-loop-name : goal.invariant-loop-name
invariant-loop-name l = l.copies ≡ spelled_names (take l.name-index l.names)
