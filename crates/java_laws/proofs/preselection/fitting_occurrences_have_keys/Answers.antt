use Rattle.java_laws.proofs.Whole.{fitting-occurrences-have-keys}
use Rattle.java_laws.proofs.preselection.fitting_occurrences_have_keys.Goals as goal

pub returns : goal.returns
returns c = fitting-occurrences-have-keys c.fitting_references_are_admitted.ensures c.fitting_declarations_are_admitted.ensures
    (record { chosen = c.chosen_method_fits.ensures; members = c.member_types_have_their_name.ensures })
