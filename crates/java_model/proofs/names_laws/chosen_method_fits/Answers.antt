use Rattle.java_model.proofs.Names.OverloadLaws.{chosen_method_fits}
use Rattle.java_model.proofs.names_laws.chosen_method_fits.Goals as goal

pub returns : goal.returns
returns c = chosen_method_fits
