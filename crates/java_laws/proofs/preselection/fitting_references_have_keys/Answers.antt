use Rattle.java_laws.proofs.Preselecting.{fitting-references-have-keys}
use Rattle.java_laws.proofs.preselection.fitting_references_have_keys.Goals as goal

pub returns : goal.returns
returns c = fitting-references-have-keys c.fitting_references_are_admitted.ensures
