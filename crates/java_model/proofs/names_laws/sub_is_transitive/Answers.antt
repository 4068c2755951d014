use Rattle.java_model.proofs.Names.SupertypeLaws.{sub_is_transitive}
use Rattle.java_model.proofs.names_laws.sub_is_transitive.Goals as goal

pub returns : goal.returns
returns c = sub_is_transitive
