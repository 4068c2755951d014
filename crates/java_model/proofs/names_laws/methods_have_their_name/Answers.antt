use Rattle.java_model.proofs.Names.OverloadLaws.{methods_have_their_name}
use Rattle.java_model.proofs.names_laws.methods_have_their_name.Goals as goal

pub returns : goal.returns
returns c = methods_have_their_name
