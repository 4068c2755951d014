use Rattle.std.proofs.Common.{arith}
use Rattle.java_scan.proofs.UnitLaws.{four_some, hex_bound}
use Rattle.java_scan.proofs.cursor.Cursor.four_digits.Goals as goal

pub overflow_add-result-2 : goal.overflow_add-result-2
overflow_add-result-2 c =
    omega (arith, hex_bound c.args.self.now c.hex_digit.new.self c.in-Some.a c.in-Some.ensures, hex_bound c.hex_digit.new.self c.hex_digit-2.new.self c.in-Some-hex_digit.b c.in-Some-hex_digit.ensures, hex_bound c.hex_digit-2.new.self c.hex_digit-3.new.self c.in-Some-hex_digit-2.c c.in-Some-hex_digit-2.ensures)

pub overflow_mul-result-3 : goal.overflow_mul-result-3
overflow_mul-result-3 c =
    omega (arith, hex_bound c.args.self.now c.hex_digit.new.self c.in-Some.a c.in-Some.ensures, hex_bound c.hex_digit.new.self c.hex_digit-2.new.self c.in-Some-hex_digit.b c.in-Some-hex_digit.ensures, hex_bound c.hex_digit-2.new.self c.hex_digit-3.new.self c.in-Some-hex_digit-2.c c.in-Some-hex_digit-2.ensures)

pub overflow_add-result-3 : goal.overflow_add-result-3
overflow_add-result-3 c =
    omega (arith, hex_bound c.args.self.now c.hex_digit.new.self c.in-Some.a c.in-Some.ensures, hex_bound c.hex_digit.new.self c.hex_digit-2.new.self c.in-Some-hex_digit.b c.in-Some-hex_digit.ensures, hex_bound c.hex_digit-2.new.self c.hex_digit-3.new.self c.in-Some-hex_digit-2.c c.in-Some-hex_digit-2.ensures, hex_bound c.hex_digit-3.new.self c.hex_digit-4.new.self c.in-Some-hex_digit-3.d c.in-Some-hex_digit-3.ensures)

pub returns : goal.returns
returns c = four_some c.args.self.now c.hex_digit.new.self c.hex_digit-2.new.self c.hex_digit-3.new.self c.hex_digit-4.new.self c.in-Some.a c.in-Some-hex_digit.b c.in-Some-hex_digit-2.c c.in-Some-hex_digit-3.d c.in-Some.ensures c.in-Some-hex_digit.ensures c.in-Some-hex_digit-2.ensures c.in-Some-hex_digit-3.ensures
