use Rattle.std.proofs.Common.{arith}
use Rattle.java_model.specs.Names.Supertypes.{header_supers}
use Rattle.java_supers.proofs.Tables.{has-more}
use Rattle.java_supers.proofs.hierarchy.all_headers.Goals as goal

pub loop-number-preserved : goal.loop-number-preserved
loop-number-preserved c = record {
  within = omega (arith, c.loop-number-test.true, c.len-number-end.ensures);
  kept = c.in_ok-header.ensures.kept;
  first = has-more (header_supers c.args.env.now) c.loop-number.number c.loop-number.headers c.push.new.self c.in_ok-header.header c.loop-number.invariant.first c.in_ok-header.ensures.value c.in_ok-push.ensures.ok;
}
