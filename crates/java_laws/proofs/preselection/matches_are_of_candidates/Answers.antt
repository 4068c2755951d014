use Rattle.java_laws.proofs.Candidates.{matches-are-of-candidates}
use Rattle.java_laws.proofs.preselection.matches_are_of_candidates.Goals as goal

pub returns : goal.returns
returns c = matches-are-of-candidates c.fitting_documents_are_preselected.ensures
