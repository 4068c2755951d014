use Rattle.java_model.proofs.Grammar.Braces.{unit_braces}
use Rattle.java_model.proofs.grammar_laws.unit_has_each_brace.Goals as goal

pub returns : goal.returns
returns c = unit_braces
