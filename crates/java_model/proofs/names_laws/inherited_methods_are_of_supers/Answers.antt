use Rattle.java_model.proofs.Names.MemberLaws.{inherited_methods_are_of_supers}
use Rattle.java_model.proofs.names_laws.inherited_methods_are_of_supers.Goals as goal

pub returns : goal.returns
returns c = inherited_methods_are_of_supers
