use Rattle.java_laws.proofs.Strict.{occurrences-are-strict}
use Rattle.java_laws.proofs.order_laws.occurrences_are_strict.Goals as goal

pub returns : goal.returns
returns c = occurrences-are-strict
