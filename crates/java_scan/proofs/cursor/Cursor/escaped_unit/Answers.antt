use Rattle.java_scan.proofs.UnitLaws.{escaped_is}
use Rattle.java_scan.proofs.cursor.Cursor.escaped_unit.Goals as goal

pub returns : goal.returns
returns c = escaped_is c.args.self.now c.run.new.self c.four_digits.new.self c.four_digits.result c.requires c.run.ensures c.four_digits.ensures
