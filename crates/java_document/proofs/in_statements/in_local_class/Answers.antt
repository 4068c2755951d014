use Rattle.std.proofs.Common.{rules, refl}
use Rattle.java_document.proofs.InStatements.{in_local_class}
use Rattle.java_document.proofs.in_statements.in_local_class.Goals as goal

pub returns : goal.returns
returns c = in_local_class c.args.scope.now _ c.args.brace c.args.found.now.items c.find.new.found.items c.in_ok-find.ensures refl (search rules)
