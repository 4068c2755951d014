use Rattle.java_model.proofs.Lexical.Laws.{tokens_are_unique}
use Rattle.java_model.proofs.lexical_laws.tokens_are_unique.Goals as goal

pub returns : goal.returns
returns c = tokens_are_unique
