use Rattle.java_model.proofs.PlaceLaws.{type-unique}
use Rattle.java_model.proofs.place_laws.type_names_are_unique.Goals as goal

pub returns : goal.returns
returns c = type-unique
