use Rattle.std.proofs.Common.{◌≡◌, ◌-◌, ◌++◌, length}
use Rattle.std.specs.Prelude.{slice_get}
use Rattle.std.specs.Option.{option_and_then}
use Rattle.java_model.specs.Names.Environments.{outward}
use Rattle.java_types.specs.Entries.{around_in}
use Rattle.java_types.proofs.around.types_around.Given as goal

-- the types so far, and those around them
abbrev pub invariant-loop-step : goal.invariant-loop-step
invariant-loop-step l =
    l.numbers.items ++ outward (λ k. option_and_then (λ t. t.parent) (slice_get l.types k)) (length l.types - l.step) l.next ≡ around_in l.types l.number
