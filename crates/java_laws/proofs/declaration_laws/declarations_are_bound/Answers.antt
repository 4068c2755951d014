use Rattle.java_laws.proofs.AllThere.{declarations-are-bound}
use Rattle.java_laws.proofs.declaration_laws.declarations_are_bound.Goals as goal

pub returns : goal.returns
returns c = declarations-are-bound (record { chosen = c.chosen_method_fits.ensures; members = c.member_types_have_their_name.ensures })
