use Rattle.java_model.proofs.OutlineLaws.{has_outline}
use Rattle.java_model.proofs.grammar_laws.unit_has_outline.Goals as goal

pub returns : goal.returns
returns c = has_outline
