use Rattle.std.proofs.Common.{◌≡◌, ◌++◌, length}
use Rattle.std.specs.List.{zip}
use Rattle.java_model.specs.Occurrences.References.{identifiers_in}
use Rattle.java_bind.specs.Roles.{role_of}
use Rattle.java_bind.proofs.names.identifiers_in.Given as goal

-- what is found, and what is left
abbrev pub invariant-loop-left : goal.invariant-loop-left
invariant-loop-left l =
    l.found.items ++ identifiers_in (role_of l.role) (zip l.left l.kinds_left) ≡ l.initial.found.items ++ identifiers_in (role_of l.role) (zip l.name l.kinds)

abbrev pub decreases-loop-left : goal.decreases-loop-left
decreases-loop-left l = length l.left
