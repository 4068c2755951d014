-- What stands before the body of a type that has a name.
use Rattle.std.proofs.Common.{◌≡◌, refl}
use Rattle.std.specs.Prelude.{◌≢◌}
use Rattle.java_tree.specs.declared.unit.TypePlace.{TypePlace}
use Rattle.java_tree.specs.declared.unit.TypePlace.TheVariants as places
use Rattle.java_unit_reading.specs.Reading.Steps.{State, and_then}
use Rattle.java_unit_reading.specs.Reading.Words.{modifiers}
use Rattle.java_unit_reading.specs.Reading.Members.{head, named_head}

pub head_of_named : (place : TypePlace) (s : State) → place ≢ places.Anonymous → head place s ≡ and_then (modifiers s) (named_head place)
unfolding head
head_of_named places.TopLevel s h = refl
head_of_named places.Member s h = refl
head_of_named places.Local s h = refl
head_of_named places.Anonymous s h = absurd (h refl)
