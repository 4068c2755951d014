use Rattle.std.proofs.Common.{rules}
use Rattle.java_document.proofs.Lists.{map_next}
use Rattle.java_document.proofs.numbers.braces_of.Goals as goal

pub loop-declared-preserved : goal.loop-declared-preserved
loop-declared-preserved c = search (rules, map_next (λ t. t.brace) c.args.types.now c.loop-declared.declared-index c.declared-item.result)
