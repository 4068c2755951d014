use Rattle.std.proofs.Common.{◌∙◌, sym, refl, ap, arith, map, length, [], min, ◌<◌, ◌≤◌}
use Rattle.std.proofs.lemmas.List.{length-map}
use Rattle.std.proofs.Math.ListN.{get_or-map}
use Rattle.std.specs.Str.{bytes_eq}
use Rattle.java_tree.specs.declared.mark.Mark.TheVariants as marks
use Rattle.java_expr_reading.proofs.SignLaws.{same_word, found_at, passed_at, none_left}
use Rattle.java_expr_reading.proofs.signs.mark_in.Goals as goal

pub loop-at-init : goal.loop-at-init
loop-at-init c = refl

pub returns-then-is_same_word : goal.returns-then-is_same_word
returns-then-is_same_word c =
    let ws = map (λ word. word.now) c.args.words.now in
    let below : c.loop-at.at < min (length ws) (length c.args.marks.now) = rw (length-map c.args.words.now (λ word. word.now))
    (omega (arith, c.loop-at-test.true, c.min-at-end.ensures)) in
    found_at c.args.marks.now ws c.args.name.now c.loop-at.at marks.Abstract [] below
    (sym (same_word _ _ _ _ c.is_same_word.ensures c.if-is_same_word.true)
    ∙ ap (λ w. bytes_eq w c.args.name.now) (sym (get_or-map (λ word. word.now) c.args.words.now c.loop-at.at (record { ref_ptr = (0, 0); now = [] }))))
    ∙ sym c.loop-at.invariant

pub loop-at-preserved : goal.loop-at-preserved
loop-at-preserved c =
    let ws = map (λ word. word.now) c.args.words.now in
    let below : c.loop-at.at < min (length ws) (length c.args.marks.now) = rw (length-map c.args.words.now (λ word. word.now))
    (omega (arith, c.loop-at-test.true, c.min-at-end.ensures)) in
    c.loop-at.invariant ∙ passed_at c.args.marks.now ws c.args.name.now c.loop-at.at marks.Abstract [] below
    (sym (same_word _ _ _ _ c.is_same_word.ensures c.if-is_same_word.false)
    ∙ ap (λ w. bytes_eq w c.args.name.now) (sym (get_or-map (λ word. word.now) c.args.words.now c.loop-at.at (record { ref_ptr = (0, 0); now = [] }))))

pub returns : goal.returns
returns c =
    let ws = map (λ word. word.now) c.args.words.now in
    let past : min (length ws) (length c.args.marks.now) ≤ c.loop-at.at = rw (length-map c.args.words.now (λ word. word.now))
    (omega (arith, c.loop-at-test.false, c.min-at-end.ensures)) in
    none_left c.args.marks.now ws c.args.name.now c.loop-at.at past ∙ sym c.loop-at.invariant
