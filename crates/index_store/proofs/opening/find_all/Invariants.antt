use Rattle.std.proofs.Common.{◌≡◌, IsTrue}
use Rattle.index_states.specs.Reads.{ReadsOnly}
use Rattle.index_store.specs.Opened.{FindsBelow}
use Rattle.index_store.proofs.opening.find_all.Given as goal

abbrev pub invariant-loop-pair : goal.invariant-loop-pair
invariant-loop-pair g l = record {
  reads : ReadsOnly g.D.Disk.seen g.D.Disk.may_leave g.D.Disk.moment g.D.Disk.left_since g.D.Disk.is_honest l.initial.disk l.disk;
  quiet : g.D.Disk.faults l.disk ≡ g.D.Disk.faults l.initial.disk;
  found : IsTrue (g.D.Disk.is_honest l.initial.disk) → FindsBelow (g.D.Disk.seen l.initial.disk) l.table l.pair l.found.items;
}
