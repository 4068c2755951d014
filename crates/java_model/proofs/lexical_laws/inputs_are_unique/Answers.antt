use Rattle.java_model.proofs.Lexical.Laws.{inputs_are_unique}
use Rattle.java_model.proofs.lexical_laws.inputs_are_unique.Goals as goal

pub returns : goal.returns
returns c = inputs_are_unique
