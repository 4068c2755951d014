use Rattle.std.proofs.Common.{take}
use Rattle.std.specs.List.{flat_map}
use Rattle.java_model.specs.Names.TypeNames.{class_of}
use Rattle.java_env.specs.Walks.{Adds, has}
use Rattle.java_env.proofs.walks.add_classes.Given as goal

-- the classes so far are added
abbrev pub invariant-loop-of : goal.invariant-loop-of
invariant-loop-of l = Adds (has l.fn.seen) l.fn.new (flat_map class_of (take l.of-index l.types)) (has l.seen) l.new
