use Rattle.java_model.proofs.Grammar.Ends.{ends}
use Rattle.java_model.proofs.grammar_laws.expression_ends.Goals as goal

pub returns : goal.returns
returns c = ends
