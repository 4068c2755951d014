use Rattle.java_model.specs.Occurrences.Occurrences.{java_rules, spot_at}
use Rattle.java_model.proofs.Places.{names-unique}
use Rattle.java_model.proofs.place_laws.names_are_unique.Goals as goal

pub returns : goal.returns
returns c = λ C u. names-unique (java_rules C) (spot_at C u)
