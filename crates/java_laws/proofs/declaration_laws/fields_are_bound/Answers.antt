use Rattle.java_laws.proofs.Bound.{fields-are-bound}
use Rattle.java_laws.proofs.declaration_laws.fields_are_bound.Goals as goal

pub returns : goal.returns
returns c = fields-are-bound
