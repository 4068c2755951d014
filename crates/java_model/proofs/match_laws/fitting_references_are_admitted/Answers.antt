use Rattle.java_model.proofs.Matches.AdmitLaws.{fitting_references_are_admitted}
use Rattle.java_model.proofs.match_laws.fitting_references_are_admitted.Goals as goal

pub returns : goal.returns
returns c = fitting_references_are_admitted
