use Rattle.std.proofs.Common.{ℕ, ◌+◌, ◌-◌, ◌≤◌, List, Option, subst, ap, length, take, drop, sym, arith, take-take, take-add, length-take, length-drop}
use Rattle.std.proofs.lemmas.Result.{err_from_is_err_and}
use Rattle.jx_io.specs.Stream.{Appends}
use Rattle.jx_io.proofs.StreamLaws.{Appends-append, AppendsPrefix-from_take}
use Rattle.jx_io.proofs.whole.write_whole.Goals as goal

-- the prefix so far, and the prefix of the rest that was taken next
prefix_more : (a b c : Option (List ℕ)) (text : List ℕ) (done n : ℕ) → n ≤ length text - done
    → Appends a b (take done text) → Appends b c (take n (take (length text - done) (drop done text))) → Appends a c (take (done + n) text)
prefix_more a b c text done n within so_far next =
    let piece = rw (take-take n (length text - done) (drop done text) within) at next in
    subst (λ t. Appends a c t) (sym (take-add done n text)) (Appends-append a b c (take done text) (take n (drop done text)) so_far piece)

pub returns-in_err-count-clause-prefix : goal.returns-in_err-count-clause-prefix
returns-in_err-count-clause-prefix g c =
    let p = err_from_is_err_and c.from_residual.result c.from_residual.ensures.1 in
    rw (p.1, c.in_err-count.ensures.kept) (AppendsPrefix-from_take _ _ c.args.text.now c.loop-done.done c.loop-done.invariant.appended)

pub loop-done-preserved : goal.loop-done-preserved
loop-done-preserved g c = record {
  within = omega (arith, c.in_ok-count.ensures.within);
  appended = prefix_more _ _ _ c.args.text.now c.loop-done.done c.in_ok-count.count (omega (arith, c.in_ok-count.ensures.within, length-take {A = ℕ}, length-drop {A = ℕ})) c.loop-done.invariant.appended c.in_ok-count.ensures.appended;
  unstarted = λ none. absurd (omega (arith, ap length none));
  quiet = omega (arith, c.in_ok-count.ensures.quiet);
}
