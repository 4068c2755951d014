use Rattle.java_scope.proofs.Linking.{took_off}
use Rattle.java_scope.proofs.table.take_off.Goals as goal

pub returns : goal.returns
returns c = took_off c.pop.result c.args.entries.now c.pop.new.self c.pop.ensures
