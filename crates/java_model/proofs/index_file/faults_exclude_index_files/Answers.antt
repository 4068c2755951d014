use Rattle.java_model.proofs.IndexFile.Laws.{faults_exclude_files}
use Rattle.java_model.proofs.index_file.faults_exclude_index_files.Goals as goal

pub returns : goal.returns
returns c = faults_exclude_files
