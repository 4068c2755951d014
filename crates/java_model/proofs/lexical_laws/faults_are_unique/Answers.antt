use Rattle.java_model.proofs.Lexical.Laws.{faults_are_unique}
use Rattle.java_model.proofs.lexical_laws.faults_are_unique.Goals as goal

pub returns : goal.returns
returns c = faults_are_unique
