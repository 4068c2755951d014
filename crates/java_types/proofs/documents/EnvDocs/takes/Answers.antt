use Rattle.std.proofs.Common.{◌-◌, length, arith}
use Rattle.java_types.specs.Documents.{path_of}
use Rattle.java_types.proofs.Paths.{takes_last}
use Rattle.java_types.proofs.documents.EnvDocs.takes.Goals as goal

pub returns-else-count-eq0 : goal.returns-else-count-eq0
returns-else-count-eq0 c =
    takes_last c.args.self.now c.self.inside.documents c.as_slice-documents.result.now (path_of c.args.name.now) (length c.as_slice-documents.result.now - 1) c.index-documents-count.result c.by_path.result c.is_lt.result
    c.self.view_is c.as_slice-documents.ensures c.self.invariant (omega arith) c.by_path.ensures c.is_lt.ensures
