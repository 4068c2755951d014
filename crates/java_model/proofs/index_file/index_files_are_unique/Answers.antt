use Rattle.java_model.proofs.IndexFile.Laws.{files_are_unique}
use Rattle.java_model.proofs.index_file.index_files_are_unique.Goals as goal

pub returns : goal.returns
returns c = files_are_unique
