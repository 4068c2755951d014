use Rattle.java_model.proofs.Matches.DeclarationLaws.{fitting_declarations_are_admitted}
use Rattle.java_model.proofs.match_laws.fitting_declarations_are_admitted.Goals as goal

pub returns : goal.returns
returns c = fitting_declarations_are_admitted
