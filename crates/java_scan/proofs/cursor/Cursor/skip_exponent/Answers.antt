use Rattle.std.proofs.Common.{◌≡◌, true, false, sym, ap, ◌∙◌}
use Rattle.java_model.proofs.Lexical.Reading.{begins}
use Rattle.java_scan.specs.declared.class.Class.TheVariants.{ExponentMark, Sign, Digit}
use Rattle.java_scan.specs.Classes.{passes}
use Rattle.java_scan.specs.Place.{after_run}
use Rattle.java_scan.specs.Steps.{after_if}
use Rattle.java_scan.proofs.NumberLaws.{no_mark, no_exponent_digits, exponent_here, none_has, none_after, some_has, some_after}
use Rattle.java_scan.proofs.cursor.Cursor.skip_exponent.Goals as goal

pub returns-then-not-skip_if-clause-value : goal.returns-then-not-skip_if-clause-value
returns-then-not-skip_if-clause-value c =
    let mark : begins (passes ExponentMark) c.args.self.now.left ≡ false = cc in
    sym (none_has c.args.self.now (no_mark c.args.self.now mark))

pub returns-then-not-skip_if-clause-after : goal.returns-then-not-skip_if-clause-after
returns-then-not-skip_if-clause-after c =
    let mark : begins (passes ExponentMark) c.args.self.now.left ≡ false = cc in
    sym (none_after c.args.self.now (no_mark c.args.self.now mark))

pub returns-then-not-sees-clause-value : goal.returns-then-not-sees-clause-value
returns-then-not-sees-clause-value c =
    let mark : begins (passes ExponentMark) c.args.self.now.left ≡ true = cc in
    let digit : begins (passes Digit) (after_if (passes Sign) (after_if (passes ExponentMark) c.args.self.now)).left ≡ false = cc in
    sym (none_has c.args.self.now (no_exponent_digits c.args.self.now mark digit))

pub returns-then-not-sees-clause-after : goal.returns-then-not-sees-clause-after
returns-then-not-sees-clause-after c =
    let mark : begins (passes ExponentMark) c.args.self.now.left ≡ true = cc in
    let digit : begins (passes Digit) (after_if (passes Sign) (after_if (passes ExponentMark) c.args.self.now)).left ≡ false = cc in
    sym (none_after c.args.self.now (no_exponent_digits c.args.self.now mark digit))

pub returns-clause-value : goal.returns-clause-value
returns-clause-value c =
    let mark : begins (passes ExponentMark) c.args.self.now.left ≡ true = cc in
    let digit : begins (passes Digit) (after_if (passes Sign) (after_if (passes ExponentMark) c.args.self.now)).left ≡ true = cc in
    sym (some_has c.args.self.now (exponent_here c.args.self.now mark digit).0)

pub returns-clause-after : goal.returns-clause-after
returns-clause-after c =
    let mark : begins (passes ExponentMark) c.args.self.now.left ≡ true = cc in
    let digit : begins (passes Digit) (after_if (passes Sign) (after_if (passes ExponentMark) c.args.self.now)).left ≡ true = cc in
    let e = (exponent_here c.args.self.now mark digit).1 in
    let r : c.run.new.self ≡ after_run (passes Digit) (after_if (passes Sign) (after_if (passes ExponentMark) c.args.self.now)) = c.run.ensures ∙ ap (after_run (passes Digit)) (let s : c.skip_if-2.new.self ≡ after_if (passes Sign) (after_if (passes ExponentMark) c.args.self.now) = cc in s) in
    some_after c.args.self.now c.run.new.self (r ∙ e)
