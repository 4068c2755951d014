use Rattle.java_model.proofs.Names.SupertypeLaws.{supertypes_have_no_cycle}
use Rattle.java_model.proofs.names_laws.supertypes_have_no_cycle.Goals as goal

pub returns : goal.returns
returns c = supertypes_have_no_cycle
