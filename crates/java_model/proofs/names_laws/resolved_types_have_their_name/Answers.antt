use Rattle.java_model.proofs.Names.TypeNameLaws.{resolved_types_have_their_name}
use Rattle.java_model.proofs.names_laws.resolved_types_have_their_name.Goals as goal

pub returns : goal.returns
returns c = resolved_types_have_their_name
