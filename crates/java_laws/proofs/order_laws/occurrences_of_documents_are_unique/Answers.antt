use Rattle.java_laws.proofs.UniqueOrder.{document-occurrences-are-unique}
use Rattle.java_laws.proofs.order_laws.occurrences_of_documents_are_unique.Goals as goal

pub returns : goal.returns
returns c = document-occurrences-are-unique
