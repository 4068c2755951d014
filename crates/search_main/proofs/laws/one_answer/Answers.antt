use Rattle.search_main.proofs.OneOutput.{same_answer}
use Rattle.search_main.proofs.laws.one_answer.Goals as goal

pub returns : goal.returns
returns c = same_answer (record {
  outlines = c.one_outline.ensures;
  units = c.one_unit.ensures;
  occurrences = c.occurrences_of_documents_are_unique.ensures;
}) c.one_script.ensures
