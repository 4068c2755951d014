use Rattle.std.proofs.Common.{rules, arith}
use Rattle.std.proofs.lemmas.Grind.{common_steps}
use Rattle.java_parse_stmt.specs.Knot.{inside}
use Rattle.java_parse_unit.proofs.Invoking.{other_explicit}
use Rattle.java_parse_unit.proofs.members.Members.qualified.Goals as goal

pub returns-in_err-primary : goal.returns-in_err-primary
returns-in_err-primary g c =
    let e = other_explicit (inside c.args.self.now.nested.depth) c.args.self.now.nested.depth c.args.self.now.nested.within c.args.reader.now in
    first_of (search rules, grind (arith, common_steps))

pub returns-in-Some : goal.returns-in-Some
returns-in-Some g c =
    let e = other_explicit (inside c.args.self.now.nested.depth) c.args.self.now.nested.depth c.args.self.now.nested.within c.args.reader.now in
    first_of (search rules, grind (arith, common_steps))

pub returns-in-None : goal.returns-in-None
returns-in-None g c =
    let e = other_explicit (inside c.args.self.now.nested.depth) c.args.self.now.nested.depth c.args.self.now.nested.within c.args.reader.now in
    first_of (search rules, grind (arith, common_steps))
