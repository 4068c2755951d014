use Rattle.java_document.proofs.NumberLaws.{found_number, no_number}
use Rattle.java_document.proofs.numbers.number_in.Goals as goal

pub returns-in-Ok : goal.returns-in-Ok
returns-in-Ok c = found_number c.args.braces.now c.args.brace c.in-Ok.number c.binary_search.result c.in-Ok.is c.requires c.binary_search.ensures.position

pub returns-in-Err : goal.returns-in-Err
returns-in-Err c = no_number c.args.braces.now c.args.brace c.in-Err.field-0 c.binary_search.result c.in-Err.is c.requires c.binary_search.ensures.position
