use Rattle.java_model.proofs.DeclaredLaws.{field-declared}
use Rattle.java_model.proofs.place_laws.field_is_declared.Goals as goal

pub returns : goal.returns
returns c = field-declared
