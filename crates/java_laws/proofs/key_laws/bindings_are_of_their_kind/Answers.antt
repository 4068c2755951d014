use Rattle.java_laws.proofs.UnitKeys.{bindings-are-of-their-kind}
use Rattle.java_laws.proofs.key_laws.bindings_are_of_their_kind.Goals as goal

pub returns : goal.returns
returns c = bindings-are-of-their-kind
