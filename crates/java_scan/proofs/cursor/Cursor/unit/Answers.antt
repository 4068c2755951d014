use Rattle.std.proofs.Common.{◌≡◌, true, false, arith}
use Rattle.java_model.specs.Lexical.Escapes.{begins_escape}
use Rattle.java_scan.proofs.UnitLaws.{read_plain, read_backslash, read_escaped, read_none, mark_here}
use Rattle.java_scan.proofs.cursor.Cursor.unit.Goals as goal

pub returns-then-c-ne92 : goal.returns-then-c-ne92
returns-then-c-ne92 c = read_plain c.args.self.now c.skip.new.self c.args.c c.args.even (omega arith) c.requires c.if-c-ne92.true c.skip.ensures

pub returns-then-not-sees_escape_mark : goal.returns-then-not-sees_escape_mark
returns-then-not-sees_escape_mark c =
    let none : begins_escape c.args.even c.skip.new.self.left ≡ false = cc in
    read_backslash c.args.self.now c.skip.new.self c.args.c c.args.even (omega arith) c.requires c.if-c-ne92.false c.skip.ensures none

pub escaped_unit-requires : goal.escaped_unit-requires
escaped_unit-requires c =
    let begun : begins_escape c.args.even c.skip.new.self.left ≡ true = cc in
    mark_here c.args.even c.skip.new.self.left begun

pub returns-in-Some : goal.returns-in-Some
returns-in-Some c =
    let begun : begins_escape c.args.even c.skip.new.self.left ≡ true = cc in
    read_escaped c.args.self.now c.skip.new.self c.escaped_unit.new.self c.args.c c.in-Some.code c.args.even c.requires c.if-c-ne92.false c.skip.ensures begun c.in-Some.ensures

pub returns-in-None : goal.returns-in-None
returns-in-None c =
    let begun : begins_escape c.args.even c.skip.new.self.left ≡ true = cc in
    read_none c.args.self.now c.skip.new.self c.args.c c.args.even c.requires c.if-c-ne92.false c.skip.ensures begun c.in-None.ensures
