use Rattle.std.proofs.Common.{◌≡◌, map, take}
use Rattle.std.specs.List.{flat_map}
use Rattle.java_model.specs.Names.TypeNames.{class_of}
use Rattle.java_supers.proofs.hierarchy.all_classes.Given as goal

-- the classes so far
abbrev pub invariant-loop-of : goal.invariant-loop-of
invariant-loop-of l = l.classes ≡ map (flat_map class_of) (take l.of-index l.types)
