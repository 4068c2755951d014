use Rattle.java_model.proofs.PlaceLaws.{kind-unique}
use Rattle.java_model.proofs.place_laws.kinds_are_unique.Goals as goal

pub returns : goal.returns
returns c = kind-unique
