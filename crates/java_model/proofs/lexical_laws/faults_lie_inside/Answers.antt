use Rattle.java_model.proofs.Lexical.Places.{faults_lie_inside}
use Rattle.java_model.proofs.lexical_laws.faults_lie_inside.Goals as goal

pub returns : goal.returns
returns c = faults_lie_inside
