use Rattle.java_laws.proofs.Bound.{methods-are-bound}
use Rattle.java_laws.proofs.declaration_laws.methods_are_bound.Goals as goal

pub returns : goal.returns
returns c = methods-are-bound
