use Rattle.java_model.proofs.Lexical.Laws.{tokens_or_fault}
use Rattle.java_model.proofs.lexical_laws.tokens_or_fault.Goals as goal

pub returns : goal.returns
returns c = tokens_or_fault
