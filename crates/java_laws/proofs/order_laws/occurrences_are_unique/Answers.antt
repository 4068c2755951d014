use Rattle.java_laws.proofs.UniqueOrder.{occurrences-are-unique}
use Rattle.java_laws.proofs.order_laws.occurrences_are_unique.Goals as goal

pub returns : goal.returns
returns c = occurrences-are-unique
