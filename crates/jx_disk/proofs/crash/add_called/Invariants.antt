use Rattle.std.proofs.Common.{drop}
use Rattle.jx_disk.specs.Crash.{is_listed, any_names, left_of, AreLeft, Lists}
use Rattle.jx_disk.proofs.Crashes.{OneOf}
use Rattle.jx_disk.proofs.crash.add_called.Given as goal

abbrev pub invariant-loop-call : goal.invariant-loop-call
invariant-loop-call l = record {
  left : AreLeft (left_of l.opening l.made l.fill l.count) l.files.items;
  kept : Lists (is_listed l.initial.files.items) l.files.items;
  listed : OneOf (any_names l.made.calls.items) (is_listed l.files.items) (any_names (drop l.call-index l.made.calls.items));
}
