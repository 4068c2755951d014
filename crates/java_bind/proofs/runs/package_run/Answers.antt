use Rattle.std.proofs.Common.{◌≡◌, length, arith, ◌∙◌}
use Rattle.java_bind.proofs.Packages.{next_run, last_run, whole_run}
use Rattle.java_bind.proofs.runs.package_run.Goals as goal

pub loop-at-preserved : goal.loop-at-preserved
loop-at-preserved c = record {
  within = omega arith;
  run = c.loop-at.invariant.run ∙ next_run c.args.name.now c.args.kinds.now c.loop-at.at c.index-kinds-at.result (omega arith) c.loop-at-test.true c.index-kinds-at.is c.in-Package.is;
}

pub returns-in_default-clause-run : goal.returns-in_default-clause-run
returns-in_default-clause-run c =
    c.loop-at.invariant.run ∙ last_run c.args.name.now c.args.kinds.now c.loop-at.at c.index-kinds-at.result (omega arith) c.loop-at-test.true c.index-kinds-at.is c.in_default.not-Package

pub returns-clause-run : goal.returns-clause-run
returns-clause-run c = let e : c.loop-at.at ≡ length c.args.kinds.now = omega arith in c.loop-at.invariant.run ∙ whole_run c.args.name.now c.args.kinds.now c.loop-at.at e
