use Rattle.java_model.proofs.DeclaredLaws.{method-declared}
use Rattle.java_model.proofs.place_laws.method_is_declared.Goals as goal

pub returns : goal.returns
returns c = method-declared
