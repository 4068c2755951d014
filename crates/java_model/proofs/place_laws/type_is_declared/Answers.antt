use Rattle.java_model.proofs.ContextLaws.{type-declared}
use Rattle.java_model.proofs.place_laws.type_is_declared.Goals as goal

pub returns : goal.returns
returns c = type-declared
