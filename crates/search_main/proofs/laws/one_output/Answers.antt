use Rattle.search_main.proofs.OneOutput.{same_output}
use Rattle.search_main.proofs.laws.one_output.Goals as goal

pub returns : goal.returns
returns c = same_output (record {
  outlines = c.one_outline.ensures;
  units = c.one_unit.ensures;
  occurrences = c.occurrences_of_documents_are_unique.ensures;
})
