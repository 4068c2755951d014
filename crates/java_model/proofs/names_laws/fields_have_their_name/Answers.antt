use Rattle.java_model.proofs.Names.OverloadLaws.{fields_have_their_name}
use Rattle.java_model.proofs.names_laws.fields_have_their_name.Goals as goal

pub returns : goal.returns
returns c = fields_have_their_name
