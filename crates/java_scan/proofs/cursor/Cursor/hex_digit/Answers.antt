use Rattle.std.proofs.Common.{◌≡◌, true, false, sym, ◌∙◌}
use Rattle.java_model.specs.Lexical.Characters.{is_hex_digit}
use Rattle.java_scan.specs.declared.class.Class.TheVariants.{HexDigit}
use Rattle.java_scan.specs.Classes.{passes}
use Rattle.java_scan.proofs.PlaceLaws.{begins_some}
use Rattle.java_scan.proofs.UnitLaws.{hex_answer, hex_test}
use Rattle.java_scan.proofs.cursor.Cursor.hex_digit.Goals as goal

pub returns-then-not-has : goal.returns-then-not-has
returns-then-not-has c =
    let fails : passes HexDigit c.in-Some.c ≡ false = cc in
    begins_some is_hex_digit c.args.self.now.left c.in-Some.c (sym c.in-Some.ensures) ∙ (sym (hex_test c.in-Some.c) ∙ fails)

pub returns : goal.returns
returns c =
    let holds : passes HexDigit c.in-Some.c ≡ true = cc in
    hex_answer c.args.self.now c.skip.new.self c.in-Some.c c.to_digit.result (sym c.in-Some.ensures) (sym (hex_test c.in-Some.c) ∙ holds) c.skip.ensures c.to_digit.ensures.value
