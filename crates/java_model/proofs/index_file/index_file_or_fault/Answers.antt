use Rattle.java_model.proofs.IndexFile.Laws.{files_or_fault}
use Rattle.java_model.proofs.index_file.index_file_or_fault.Goals as goal

pub returns : goal.returns
returns c = files_or_fault
