use Rattle.std.proofs.Common.{◌≡◌, ◌==◌, false, not, None, refl, sym, ap, ◌∙◌, ne_eqb}
use Rattle.java_model.specs.Lexical.Characters.{backslash}
use Rattle.java_model.proofs.Lexical.Reading.{begins}
use Rattle.java_scan.specs.Place.{first, after_run, no_backslash}
use Rattle.java_scan.proofs.PlaceLaws.{begins_some, begins_none, next_shorter, run_step}
use Rattle.java_scan.proofs.UnderwayLaws.{run_passed, run_placed}
use Rattle.java_scan.proofs.joining.run_places.Goals as goal

pub returns-then-c-eq92-clause-ok : goal.returns-then-c-eq92-clause-ok
returns-then-c-eq92-clause-ok c =
    let q = c.loop-c.cursor in
    let over : begins no_backslash q.left ≡ false = begins_some no_backslash q.left c.in-Some.c (sym c.in-Some.ensures) ∙ rw c.if-c-eq92.true refl in
    run_passed c.args.cursor.now q c.args.places.now.items c.loop-c.places.items over c.loop-c.invariant.after c.loop-c.invariant.placed

pub loop-c-smaller : goal.loop-c-smaller
loop-c-smaller c = let e = c.skip.ensures in rw e (next_shorter c.loop-c.cursor c.in-Some.c (sym c.in-Some.ensures))

pub loop-c-preserved : goal.loop-c-preserved
loop-c-preserved c =
    let p = c.loop-c.cursor in
    let isnt : c.in-Some.c == backslash ≡ false = ne_eqb c.in-Some.c backslash c.if-c-eq92.false in
    let here = sym c.in-Some.ensures in
    record {
      after = ap (after_run no_backslash) c.skip.ensures ∙ (run_step no_backslash p c.in-Some.c here (ap not isnt) ∙ c.loop-c.invariant.after);
      placed = run_placed p c.skip.new.self c.in-Some.c c.loop-c.places.items c.push_places.new.places.items c.len_utf8.result c.offset.result here isnt c.skip.ensures c.len_utf8.ensures.value c.offset.ensures c.in_ok-push_places.ensures.ok ∙ c.loop-c.invariant.placed;
    }

pub returns-clause-ok : goal.returns-clause-ok
returns-clause-ok c =
    let q = c.loop-c.cursor in
    let over : None ≡ first q.left = cc in
    run_passed c.args.cursor.now q c.args.places.now.items c.loop-c.places.items (begins_none no_backslash q.left (sym over)) c.loop-c.invariant.after c.loop-c.invariant.placed
