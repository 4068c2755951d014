use Rattle.java_model.proofs.IndexFile.Laws.{files_are_read}
use Rattle.java_model.proofs.index_file.index_files_are_read.Goals as goal

pub returns : goal.returns
returns c = files_are_read
