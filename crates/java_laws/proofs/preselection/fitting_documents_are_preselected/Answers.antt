use Rattle.java_laws.proofs.DocumentKeys.{fitting-documents-are-preselected}
use Rattle.java_laws.proofs.preselection.fitting_documents_are_preselected.Goals as goal

pub returns : goal.returns
returns c = fitting-documents-are-preselected c.fitting_occurrences_have_keys.ensures
