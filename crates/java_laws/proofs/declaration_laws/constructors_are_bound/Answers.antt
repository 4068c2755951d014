use Rattle.java_laws.proofs.Bound.{constructors-are-bound}
use Rattle.java_laws.proofs.declaration_laws.constructors_are_bound.Goals as goal

pub returns : goal.returns
returns c = constructors-are-bound
