use Rattle.java_model.proofs.Names.TypeNameLaws.{header_types_have_their_name}
use Rattle.java_model.proofs.names_laws.header_types_have_their_name.Goals as goal

pub returns : goal.returns
returns c = header_types_have_their_name
