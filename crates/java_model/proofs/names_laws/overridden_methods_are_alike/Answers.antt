use Rattle.java_model.proofs.Names.OverloadLaws.{overridden_methods_are_alike}
use Rattle.java_model.proofs.names_laws.overridden_methods_are_alike.Goals as goal

pub returns : goal.returns
returns c = overridden_methods_are_alike
