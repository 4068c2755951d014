use Rattle.java_model.proofs.PlaceLaws.{occurrences-alike}
use Rattle.java_model.proofs.place_laws.occurrences_are_alike.Goals as goal

pub returns : goal.returns
returns c = occurrences-alike
