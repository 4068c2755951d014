use Rattle.java_model.proofs.SpelledNodes.{node-named}
use Rattle.java_model.proofs.place_laws.references_name_what_they_mean.Goals as goal

pub returns : goal.returns
returns c = node-named
