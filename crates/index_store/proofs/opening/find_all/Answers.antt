use Rattle.std.proofs.Common.{◌+◌, IsTrue, sym, subst, ◌∙◌}
use Rattle.java_model.specs.StateFile.Recovered.{Files}
use Rattle.index_store.specs.Opened.{FindsBelow}
use Rattle.index_store.proofs.Fresh.{reads_more, same_files}
use Rattle.index_store.proofs.opening.find_all.Goals as goal

pub loop-pair-preserved : goal.loop-pair-preserved
loop-pair-preserved g c = record {
  reads =
      reads_more g.D.Disk.moment g.D.Disk.left_since g.D.Disk.may_leave g.D.Disk.seen g.D.Disk.is_honest c.args.disk.now c.loop-pair.disk c.add_found.new.disk
      c.loop-pair.invariant.reads c.add_found.ensures.reads;
  quiet = c.in_ok-add_found.ensures.count.quiet ∙ c.loop-pair.invariant.quiet;
  found = λ honest.
      let reads = c.loop-pair.invariant.reads in
      let same = same_files (g.D.Disk.seen c.args.disk.now) (g.D.Disk.seen c.loop-pair.disk) reads.same in
      let honest_now : IsTrue (g.D.Disk.is_honest c.loop-pair.disk) = subst IsTrue (sym reads.honest) honest in
      subst (λ (files : Files). FindsBelow files c.args.table.now (c.loop-pair.pair + 1) c.add_found.new.found.items) same
      (c.in_ok-add_found.ensures.found honest_now
      (subst (λ (files : Files). FindsBelow files c.args.table.now c.loop-pair.pair c.loop-pair.found.items) (sym same) (c.loop-pair.invariant.found honest)));
}
