use Rattle.java_model.proofs.DeclaredLaws.{constructor-declared}
use Rattle.java_model.proofs.place_laws.constructor_is_declared.Goals as goal

pub returns : goal.returns
returns c = constructor-declared
