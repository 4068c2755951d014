use Rattle.java_document.proofs.OneOutline.{at_most_one_outline}
use Rattle.java_document.proofs.laws.one_outline.Goals as goal

pub returns : goal.returns
returns c = at_most_one_outline c.one_unit.ensures
