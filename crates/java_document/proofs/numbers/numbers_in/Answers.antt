use Rattle.std.proofs.Common.{rules}
use Rattle.java_document.proofs.NumberLaws.{numbers_step}
use Rattle.java_document.proofs.numbers.numbers_in.Goals as goal

pub loop-brace-preserved : goal.loop-brace-preserved
loop-brace-preserved c =
    numbers_step c.args.braces.now c.args.locals.now c.loop-brace.brace-index _ c.loop-brace.numbers c.push_number.new.numbers (search rules) c.loop-brace.invariant c.in_ok-push_number.ensures
