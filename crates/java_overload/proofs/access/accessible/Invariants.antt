use Rattle.std.proofs.Common.{◌≡◌, take}
use Rattle.std.specs.List.{filter}
use Rattle.java_model.specs.Names.Accessibility.{is_accessible}
use Rattle.java_overload.proofs.access.accessible.Given as goal

-- those so far
abbrev pub invariant-loop-m : goal.invariant-loop-m
invariant-loop-m l = l.found ≡ filter (is_accessible l.env l.bodies l.here) (take l.m-index l.methods)
