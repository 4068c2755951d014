use Rattle.std.proofs.Common.{◌≡◌, true, false, Some, None, sym, ap, ◌∙◌, ne_eqb}
use Rattle.java_model.specs.Lexical.Characters.{backslash, single_quote}
use Rattle.java_model.proofs.Lexical.Reading.{begins, is_bare}
use Rattle.java_scan.specs.declared.class.Class.TheVariants.{Escaped}
use Rattle.java_scan.specs.Classes.{passes}
use Rattle.java_scan.specs.Place.{first, next}
use Rattle.java_scan.specs.Steps.{after_escaped}
use Rattle.java_scan.proofs.OneLaws.{one_none, one_over, one_not_bare, one_is_bare, one_not_escaped, one_is_escaped}
use Rattle.java_scan.proofs.cursor.Cursor.skip_one.Goals as goal

pub returns-in_default-clause-value : goal.returns-in_default-clause-value
returns-in_default-clause-value c =
    let over : None ≡ first c.args.self.now.left = cc in
    sym (one_none c.args.self.now (one_over c.args.self.now (sym over))).0

pub returns-in_default-clause-after : goal.returns-in_default-clause-after
returns-in_default-clause-after c =
    let over : None ≡ first c.args.self.now.left = cc in
    sym (one_none c.args.self.now (one_over c.args.self.now (sym over))).1

pub returns-then-not-is_bare-clause-value : goal.returns-then-not-is_bare-clause-value
returns-then-not-is_bare-clause-value c =
    let bare : is_bare single_quote c.in-Some.c ≡ false = cc in
    sym (one_none c.args.self.now (one_not_bare c.args.self.now c.in-Some.c (sym c.in-Some.ensures) (ne_eqb c.in-Some.c backslash c.if-c-ne92.true) bare)).0

pub returns-then-not-is_bare-clause-after : goal.returns-then-not-is_bare-clause-after
returns-then-not-is_bare-clause-after c =
    let bare : is_bare single_quote c.in-Some.c ≡ false = cc in
    sym (one_none c.args.self.now (one_not_bare c.args.self.now c.in-Some.c (sym c.in-Some.ensures) (ne_eqb c.in-Some.c backslash c.if-c-ne92.true) bare)).1

pub returns-then-c-ne92-clause-value : goal.returns-then-c-ne92-clause-value
returns-then-c-ne92-clause-value c =
    let bare : is_bare single_quote c.in-Some.c ≡ true = cc in
    sym (one_is_bare c.args.self.now c.in-Some.c (sym c.in-Some.ensures) (ne_eqb c.in-Some.c backslash c.if-c-ne92.true) bare).0

pub returns-then-c-ne92-clause-after : goal.returns-then-c-ne92-clause-after
returns-then-c-ne92-clause-after c =
    let bare : is_bare single_quote c.in-Some.c ≡ true = cc in
    c.skip.ensures ∙ (one_is_bare c.args.self.now c.in-Some.c (sym c.in-Some.ensures) (ne_eqb c.in-Some.c backslash c.if-c-ne92.true) bare).1

pub returns-then-not-skip_escaped-clause-value : goal.returns-then-not-skip_escaped-clause-value
returns-then-not-skip_escaped-clause-value c =
    let here : first c.args.self.now.left ≡ Some backslash = cc in
    let none : begins (passes Escaped) (next c.args.self.now).left ≡ false = cc in
    sym (one_none c.args.self.now (one_not_escaped c.args.self.now here none)).0

pub returns-then-not-skip_escaped-clause-after : goal.returns-then-not-skip_escaped-clause-after
returns-then-not-skip_escaped-clause-after c =
    let here : first c.args.self.now.left ≡ Some backslash = cc in
    let none : begins (passes Escaped) (next c.args.self.now).left ≡ false = cc in
    sym (one_none c.args.self.now (one_not_escaped c.args.self.now here none)).1

pub returns-clause-value : goal.returns-clause-value
returns-clause-value c =
    let here : first c.args.self.now.left ≡ Some backslash = cc in
    let some : begins (passes Escaped) (next c.args.self.now).left ≡ true = cc in
    sym (one_is_escaped c.args.self.now here some).0

pub returns-clause-after : goal.returns-clause-after
returns-clause-after c =
    let here : first c.args.self.now.left ≡ Some backslash = cc in
    let some : begins (passes Escaped) (next c.args.self.now).left ≡ true = cc in
    let start : c.skip-2.new.self ≡ next c.args.self.now = cc in
    c.skip_escaped.ensures.after ∙ (ap after_escaped start ∙ (one_is_escaped c.args.self.now here some).1)
