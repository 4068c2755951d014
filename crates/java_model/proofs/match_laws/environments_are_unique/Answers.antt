use Rattle.java_model.proofs.DocumentTextLaws.{environments-unique}
use Rattle.java_model.proofs.match_laws.environments_are_unique.Goals as goal

pub returns : goal.returns
returns c = environments-unique
