use Rattle.std.proofs.Common.{◌≡◌, ◌++◌, drop}
use Rattle.std.specs.List.{flat_map}
use Rattle.java_model.specs.Names.TypeNames.{class_of}
use Rattle.java_supers.proofs.inherited.classes_of.Given as goal

-- the classes so far, and those of what is left
abbrev pub invariant-loop-of : goal.invariant-loop-of
invariant-loop-of l = l.classes ++ flat_map class_of (drop l.of-index l.types) ≡ flat_map class_of l.types
