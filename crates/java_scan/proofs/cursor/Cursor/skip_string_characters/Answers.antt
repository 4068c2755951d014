use Rattle.std.proofs.Common.{◌≡◌, true, false, Some, None, sym, ap, ◌∙◌, ne_eqb}
use Rattle.java_model.specs.Lexical.Characters.{backslash, double_quote}
use Rattle.java_model.proofs.Lexical.Reading.{is_bare}
use Rattle.java_scan.specs.Place.{first}
use Rattle.java_scan.specs.Steps.{sees_escape, after_escape, after_string_characters}
use Rattle.java_scan.proofs.PlaceLaws.{next_shorter}
use Rattle.java_scan.proofs.QuotedLaws.{string_bare, string_stop, string_over, string_escape, string_bad, escape_shorter}
use Rattle.java_scan.proofs.cursor.Cursor.skip_string_characters.Goals as goal

pub returns-then-not-skip_escape : goal.returns-then-not-skip_escape
returns-then-not-skip_escape c =
    let bad : sees_escape c.loop-c.self ≡ false = cc in
    let here : first c.loop-c.self.left ≡ Some backslash = cc in
    let same : c.skip_escape.new.self ≡ c.loop-c.self = rw bad at c.skip_escape.ensures.after in
    same ∙ (sym (string_bad c.loop-c.self here bad) ∙ c.loop-c.invariant)

pub loop-c-smaller-else-not-skip_escape : goal.loop-c-smaller-else-not-skip_escape
loop-c-smaller-else-not-skip_escape c =
    let good : sees_escape c.loop-c.self ≡ true = cc in
    let here : first c.loop-c.self.left ≡ Some backslash = cc in
    let same : c.skip_escape.new.self ≡ after_escape c.loop-c.self = rw good at c.skip_escape.ensures.after in
    rw same (escape_shorter c.loop-c.self here good)

pub loop-c-preserved-else-not-skip_escape : goal.loop-c-preserved-else-not-skip_escape
loop-c-preserved-else-not-skip_escape c =
    let good : sees_escape c.loop-c.self ≡ true = cc in
    let here : first c.loop-c.self.left ≡ Some backslash = cc in
    let same : c.skip_escape.new.self ≡ after_escape c.loop-c.self = rw good at c.skip_escape.ensures.after in
    ap after_string_characters same ∙ (string_escape c.loop-c.self here good ∙ c.loop-c.invariant)

pub loop-c-smaller : goal.loop-c-smaller
loop-c-smaller c = let e = c.skip.ensures in rw e (next_shorter c.loop-c.self c.in-Some.c (sym c.in-Some.ensures))

pub loop-c-preserved : goal.loop-c-preserved
loop-c-preserved c =
    let bare : is_bare double_quote c.in-Some.c ≡ true = cc in
    ap after_string_characters c.skip.ensures ∙ (string_bare c.loop-c.self c.in-Some.c (sym c.in-Some.ensures) (ne_eqb c.in-Some.c backslash c.if-c-eq92.false) bare ∙ c.loop-c.invariant)

pub returns-else-is_bare : goal.returns-else-is_bare
returns-else-is_bare c =
    let stop : is_bare double_quote c.in-Some.c ≡ false = cc in
    sym (string_stop c.loop-c.self c.in-Some.c (sym c.in-Some.ensures) (ne_eqb c.in-Some.c backslash c.if-c-eq92.false) stop) ∙ c.loop-c.invariant

pub returns : goal.returns
returns c =
    let over : None ≡ first c.loop-c.self.left = cc in
    sym (string_over c.loop-c.self (sym over)) ∙ c.loop-c.invariant
