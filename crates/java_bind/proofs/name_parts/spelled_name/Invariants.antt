use Rattle.std.proofs.Common.{◌≡◌, take}
use Rattle.java_model.specs.Outlines.{spelled_name}
use Rattle.java_bind.proofs.name_parts.spelled_name.Given as goal

-- what is copied
abbrev pub invariant-loop-i : goal.invariant-loop-i
invariant-loop-i l = l.spelled ≡ spelled_name (take l.i-index l.name)
