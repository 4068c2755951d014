use Rattle.std.proofs.Common.{◌≡◌, ◌∙◌, sym, ◌++◌, ◌<◌, ◌∷◌, [], length, arith}
use Rattle.std.proofs.lemmas.Bool.{eqb-true, eqb-false}
use Rattle.std.proofs.lemmas.Result.{err_from_is_err_and}
use Rattle.script_text.specs.Inner.Reading.{searches_at}
use Rattle.script_text.proofs.Scripts.ReadLoops.{searches_go_on, searches_fail, searches_end, searches_stop}
use Rattle.script_text.proofs.reading.searches.Goals as goal

pub returns-then-is_empty : goal.returns-then-is_empty
returns-then-is_empty c =
    searches_end c.loop.searches.items _ c.loop.line c.loop.rest.now (searches_at (length c.args.bytes.now) c.args.first c.args.bytes.now)
    (eqb-true _ _ (sym c.is_empty.ensures ∙ c.if-is_empty.true)) c.loop.invariant.so_far

pub returns-in_err-next : goal.returns-in_err-next
returns-in_err-next c =
    let p = err_from_is_err_and c.from_residual.result c.from_residual.ensures.1 in
    let some : 0 < length c.loop.rest.now = omega (arith, eqb-false _ _ (sym c.is_empty.ensures ∙ c.if-is_empty.false)) in
    rw (p.1, p.2) (searches_fail c.in_err-next.field-0.0 c.loop.searches.items (length c.args.bytes.now) c.loop.counter c.loop.line c.loop.rest.now (searches_at (length c.args.bytes.now) c.args.first c.args.bytes.now) c.loop-test.true
    some c.in_err-next.ensures c.loop.invariant.so_far)

pub loop-preserved : goal.loop-preserved
loop-preserved c =
    let next = c.in_ok-next.next in
    let some : 0 < length c.loop.rest.now = omega (arith, eqb-false _ _ (sym c.is_empty.ensures ∙ c.if-is_empty.false)) in
    let e : c.push.new.self.items ≡ c.loop.searches.items ++ next ∷ [] = c.in_ok-push.ensures.items in
    record {
      counted = omega arith;
      so_far = rw e (searches_go_on c.loop.searches.items (length c.args.bytes.now) c.loop.counter c.loop.line c.loop.rest.now next c.in_ok-next.after.now (searches_at (length c.args.bytes.now) c.args.first c.args.bytes.now) c.loop-test.true
          some c.in_ok-next.ensures c.loop.invariant.so_far);
    }

pub returns-then-is_empty-2 : goal.returns-then-is_empty-2
returns-then-is_empty-2 c =
    searches_end c.loop.searches.items _ c.loop.line c.loop.rest.now (searches_at (length c.args.bytes.now) c.args.first c.args.bytes.now)
    (eqb-true _ _ (sym c.is_empty-2.ensures ∙ c.if-is_empty-2.true)) c.loop.invariant.so_far

pub returns-else-is_empty-2 : goal.returns-else-is_empty-2
returns-else-is_empty-2 c =
    let some : 0 < length c.loop.rest.now = omega (arith, eqb-false _ _ (sym c.is_empty-2.ensures ∙ c.if-is_empty-2.false)) in
    searches_stop c.loop.searches.items (length c.args.bytes.now) c.loop.counter c.loop.line c.loop.rest.now (searches_at (length c.args.bytes.now) c.args.first c.args.bytes.now) c.loop-test.false some c.loop.invariant.so_far
