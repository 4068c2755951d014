use Rattle.std.proofs.Common.{◌≡◌, sym, ap, ◌∙◌}
use Rattle.java_model.specs.Lexical.Characters.{star}
use Rattle.java_scan.specs.declared.class.Class.TheVariants.{Slash, Star}
use Rattle.java_scan.specs.Classes.{passes}
use Rattle.java_scan.specs.Place.{after_run, differs}
use Rattle.java_scan.specs.Steps.{after_if}
use Rattle.java_scan.proofs.BackslashLaws.{past_shorter}
use Rattle.java_scan.proofs.CommentLaws.{tail_none_over, tail_past, tail_closed, tail_open}
use Rattle.java_scan.proofs.cursor.Cursor.skip_comment_tail.Goals as goal

pub returns-then-skip_if : goal.returns-then-skip_if
returns-then-skip_if c =
    let p = c.loop-self.self in
    let q = c.skip_past_star.new.self in
    let past = tail_past p q (sym c.skip_past_star.ensures.value ∙ c.loop-self-test.true) c.skip_past_star.ensures.after in
    sym c.loop-self.invariant ∙ (sym past ∙ tail_closed q c.skip_if.new.self (sym c.skip_if.ensures.value ∙ c.if-skip_if.true) c.skip_if.ensures.after)

pub loop-self-smaller : goal.loop-self-smaller
loop-self-smaller c =
    let p = c.loop-self.self in
    let end : c.skip_if.new.self ≡ after_if (passes Slash) (after_if (passes Star) (after_run (differs star) p)) = c.skip_if.ensures.after ∙ ap (after_if (passes Slash)) c.skip_past_star.ensures.after in
    rw end (past_shorter (differs star) (passes Star) (passes Slash) p (sym c.skip_past_star.ensures.value ∙ c.loop-self-test.true))

pub loop-self-preserved : goal.loop-self-preserved
loop-self-preserved c =
    let p = c.loop-self.self in
    let q = c.skip_past_star.new.self in
    let past = tail_past p q (sym c.skip_past_star.ensures.value ∙ c.loop-self-test.true) c.skip_past_star.ensures.after in
    tail_open q c.skip_if.new.self (sym c.skip_if.ensures.value ∙ c.if-skip_if.false) c.skip_if.ensures.after ∙ (past ∙ c.loop-self.invariant)

pub returns : goal.returns
returns c = sym c.loop-self.invariant ∙ tail_none_over c.loop-self.self (sym c.skip_past_star.ensures.value ∙ c.loop-self-test.false)
