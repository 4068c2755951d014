use Rattle.std.proofs.Common.{◌≡◌, true, false, sym, ap, ◌∙◌}
use Rattle.java_model.proofs.Lexical.Reading.{begins}
use Rattle.java_scan.specs.declared.class.Class.TheVariants.{LetterU, Backslash}
use Rattle.java_scan.specs.Classes.{passes}
use Rattle.java_scan.specs.Steps.{after_if}
use Rattle.java_scan.specs.Place.{Place, no_backslash}
use Rattle.java_scan.specs.Unescaping.{escapes_from}
use Rattle.java_scan.proofs.BackslashLaws.{past_backslash, escapes_begun, escapes_found, escapes_unbegun, escapes_over, past_shorter}
use Rattle.java_scan.proofs.escapes.has_escape.Goals as goal

pub loop-cursor-init : goal.loop-cursor-init
loop-cursor-init c = ap (λ (p : Place). escapes_from false p.left) c.start-cursor.ensures

pub returns-then-sees : goal.returns-then-sees
returns-then-sees c =
    let q = c.skip_past_backslash.new.self in
    let begun = sym c.skip_past_backslash.ensures.value ∙ c.loop-cursor-test.true in
    let found : escapes_from true q.left ≡ true = escapes_found q.left (sym c.sees.ensures ∙ c.if-sees.true) in
    sym found ∙ (ap (λ (p : Place). escapes_from true p.left) c.skip_past_backslash.ensures.after ∙ (escapes_begun c.loop-cursor.cursor begun ∙ c.loop-cursor.invariant))

pub loop-cursor-smaller : goal.loop-cursor-smaller
loop-cursor-smaller c =
    let begun = sym c.skip_past_backslash.ensures.value ∙ c.loop-cursor-test.true in
    let end : c.skip_if.new.self ≡ after_if (passes Backslash) (past_backslash c.loop-cursor.cursor) = c.skip_if.ensures.after ∙ ap (after_if (passes Backslash)) c.skip_past_backslash.ensures.after in
    rw end (past_shorter no_backslash (passes Backslash) (passes Backslash) c.loop-cursor.cursor begun)

pub loop-cursor-preserved : goal.loop-cursor-preserved
loop-cursor-preserved c =
    let q = c.skip_past_backslash.new.self in
    let begun = sym c.skip_past_backslash.ensures.value ∙ c.loop-cursor-test.true in
    let unbegun : begins (passes LetterU) q.left ≡ false = sym c.sees.ensures ∙ c.if-sees.false in
    ap (λ (p : Place). escapes_from false p.left) c.skip_if.ensures.after
    ∙ (escapes_unbegun q unbegun ∙ (ap (λ (p : Place). escapes_from true p.left) c.skip_past_backslash.ensures.after ∙ (escapes_begun c.loop-cursor.cursor begun ∙ c.loop-cursor.invariant)))

pub returns : goal.returns
returns c = sym (sym c.loop-cursor.invariant ∙ escapes_over c.loop-cursor.cursor (sym c.skip_past_backslash.ensures.value ∙ c.loop-cursor-test.false))
