use Rattle.std.proofs.Common.{rules}
use Rattle.java_model.specs.Outlines.{import_name}
use Rattle.java_document.proofs.Lists.{map_next}
use Rattle.java_document.proofs.outline.import_names.Goals as goal

pub loop-import-preserved : goal.loop-import-preserved
loop-import-preserved c = search (rules, map_next import_name c.args.imports.now c.loop-import.import-index c.import-item.result)
