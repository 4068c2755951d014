use Rattle.java_laws.proofs.MadeNodes.{constructors-are-of-their-class}
use Rattle.java_laws.proofs.declaration_laws.constructors_are_of_their_class.Goals as goal

pub returns : goal.returns
returns c = constructors-are-of-their-class (record { chosen = c.chosen_method_fits.ensures; members = c.member_types_have_their_name.ensures })
