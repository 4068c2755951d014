use Rattle.std.proofs.Common.{drop}
use Rattle.jx_disk.specs.Crash.{is_listed, left_of, AreLeft}
use Rattle.jx_disk.proofs.Crashes.{OneOf}
use Rattle.jx_disk.proofs.crash.add_opening.Given as goal

abbrev pub invariant-loop-f : goal.invariant-loop-f
invariant-loop-f l = record {
  left : AreLeft (left_of l.opening l.made l.fill l.count) l.files.items;
  listed : OneOf (is_listed l.opening) (is_listed l.files.items) (is_listed (drop l.f-index l.opening));
}
