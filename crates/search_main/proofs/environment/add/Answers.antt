use Rattle.std.proofs.Common.{sym, subst}
use Rattle.java_types.specs.Documents.{ComesAfter}
use Rattle.search_main.proofs.Documents.{added_none}
use Rattle.search_main.proofs.environment.add.Goals as goal

pub add-requires : goal.add-requires
add-requires c = subst (ComesAfter c.args.docs.now) (sym c.in_ok-name-in-Some.ensures) c.requires.after

pub returns-in-None : goal.returns-in-None
returns-in-None c = added_none c.args.docs.now c.args.one.now c.in-None.is
