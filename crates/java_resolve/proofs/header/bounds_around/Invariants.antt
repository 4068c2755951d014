use Rattle.std.proofs.Common.{◌≡◌, ◌++◌, map, drop}
use Rattle.java_model.specs.Names.TypeNames.{bounds_around}
use Rattle.java_resolve.specs.Resolving.{bound_of}
use Rattle.java_resolve.proofs.header.bounds_around.Given as goal

-- the bounds so far, and those of what is left
abbrev pub invariant-loop-body : goal.invariant-loop-body
invariant-loop-body l = map bound_of l.bounds ++ bounds_around l.d l.locals (drop l.body-index l.around) ≡ bounds_around l.d l.locals l.around
