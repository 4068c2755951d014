use Rattle.std.proofs.Common.{◌≡◌, take}
use Rattle.std.specs.List.{filter}
use Rattle.java_model.specs.Names.Overloads.{is_applicable}
use Rattle.java_overload.proofs.choice.applicable.Given as goal

-- those so far
abbrev pub invariant-loop-m : goal.invariant-loop-m
invariant-loop-m l = l.found ≡ filter (is_applicable l.env l.args) (take l.m-index l.methods)
