use Rattle.java_laws.proofs.AllThere.{bindings-are-there}
use Rattle.java_laws.proofs.declaration_laws.bindings_are_there.Goals as goal

pub returns : goal.returns
returns c = bindings-are-there (record { chosen = c.chosen_method_fits.ensures; members = c.member_types_have_their_name.ensures })
