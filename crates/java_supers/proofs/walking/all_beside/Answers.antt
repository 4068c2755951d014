use Rattle.std.proofs.Common.{◌≡◌, length, arith, subst}
use Rattle.java_supers.specs.Reaching.{HasFirst}
use Rattle.java_supers.specs.Walking.{beside_in}
use Rattle.java_supers.proofs.Tables.{has-more}
use Rattle.java_supers.proofs.Walks.{all-are-beside}
use Rattle.java_supers.proofs.walking.all_beside.Goals as goal

pub loop-number-preserved : goal.loop-number-preserved
loop-number-preserved c = record {
  within = omega (arith, c.loop-number-test.true);
  first = has-more (beside_in c.args.nexts.now) c.loop-number.number c.loop-number.table c.push.new.self c.in_ok-beside.beside c.loop-number.invariant.first c.in_ok-beside.ensures.value c.in_ok-push.ensures.ok;
  none = c.in_ok-beside.ensures.unmarked;
}

pub returns : goal.returns
returns c =
    let all : c.loop-number.number ≡ length c.args.nexts.now = omega (arith, c.loop-number.invariant.within, c.loop-number-test.false) in
    all-are-beside c.args.nexts.now c.loop-number.table (subst (λ n. HasFirst (beside_in c.args.nexts.now) n c.loop-number.table) all c.loop-number.invariant.first)
