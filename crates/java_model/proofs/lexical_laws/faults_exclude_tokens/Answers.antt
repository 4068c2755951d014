use Rattle.java_model.proofs.Lexical.Laws.{faults_exclude_tokens}
use Rattle.java_model.proofs.lexical_laws.faults_exclude_tokens.Goals as goal

pub returns : goal.returns
returns c = faults_exclude_tokens
