use Rattle.std.proofs.Common.{List, get_or, subst, arith}
use Rattle.jx_disk.specs.Crash.{names, any_names, Lists}
use Rattle.jx_disk.specs.declared.record.Call.{Call}
use Rattle.jx_disk.specs.declared.record.Call.TheVariants.{Read}
use Rattle.jx_disk.proofs.Crashes.{calls_next}
use Rattle.jx_disk.proofs.crash.add_called.Goals as goal

pub loop-call-preserved : goal.loop-call-preserved
loop-call-preserved c = record {
  left = c.in_ok-add_named.ensures.left;
  kept = λ file listed. c.in_ok-add_named.ensures.kept file (c.loop-call.invariant.kept file listed);
  listed =
      calls_next (any_names c.args.made.now.calls.items) c.loop-call.files.items c.add_named.new.files.items c.args.made.now.calls.items c.loop-call.call-index (omega arith)
      c.loop-call.invariant.listed c.in_ok-add_named.ensures.kept
      (subst (λ (l : List Call). Lists (λ file. names file (get_or l c.loop-call.call-index Read)) c.add_named.new.files.items) c.as_slice-call-items.ensures.value c.in_ok-add_named.ensures.listed);
}
