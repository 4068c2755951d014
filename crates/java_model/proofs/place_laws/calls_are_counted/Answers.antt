use Rattle.java_model.proofs.NodeLaws.{spot-counted}
use Rattle.java_model.proofs.place_laws.calls_are_counted.Goals as goal

pub returns : goal.returns
returns c = spot-counted
