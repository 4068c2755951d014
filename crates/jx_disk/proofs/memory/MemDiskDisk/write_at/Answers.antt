use Rattle.std.proofs.Common.{length, ◌∙◌, refl, None}
use Rattle.jx_disk.specs.Disk.{TornWrite}
use Rattle.jx_disk.specs.Calls.{Written, image_after}
use Rattle.jx_disk.specs.Memory.{seen_of}
use Rattle.jx_disk.specs.Steps.{written_here}
use Rattle.jx_disk.specs.MemoryLaws.{writes_file}
use Rattle.jx_disk.proofs.MemoryCalls.{is_quiet, seen_more, may_leave_more, time_more, torn_write_of_nothing, follows_write, changes_as}
use Rattle.jx_disk.proofs.memory.MemDiskDisk.write_at.Goals as goal

pub returns-in_err-put-clause-torn : goal.returns-in_err-put-clause-torn
returns-in_err-put-clause-torn c = torn_write_of_nothing c.args.file c.args.at (length c.args.piece.now) _ _ (is_quiet c.args.self.now c.put.new.self c.in_err-put.ensures.makes.looked).same

pub returns-in_err-put-clause-crash : goal.returns-in_err-put-clause-crash
returns-in_err-put-clause-crash c = follows_write c.args.file c.args.at (length c.args.piece.now) _ _ (is_quiet c.args.self.now c.put.new.self c.in_err-put.ensures.makes.looked).crash

pub returns-in_err-put-clause-time : goal.returns-in_err-put-clause-time
returns-in_err-put-clause-time c = (is_quiet c.args.self.now c.put.new.self c.in_err-put.ensures.makes.looked).time

pub returns-clause-written : goal.returns-clause-written
returns-clause-written c =
    seen_more (Written c.args.file c.args.at c.args.piece.now) c.args.self.now c.put.new.self c.in_ok-put.ensures.makes.recorded c.args.file
    ∙ written_here None c.args.file c.args.file c.args.at c.args.piece.now (seen_of c.args.self.now c.args.file) refl

pub returns-clause-torn : goal.returns-clause-torn
returns-clause-torn c =
    changes_as c.args.file (TornWrite c.args.at (length c.args.piece.now)) (seen_of c.args.self.now) (image_after None (Written c.args.file c.args.at c.args.piece.now) (seen_of c.args.self.now)) (seen_of c.put.new.self)
    (seen_more (Written c.args.file c.args.at c.args.piece.now) c.args.self.now c.put.new.self c.in_ok-put.ensures.makes.recorded)
    (writes_file c.args.file c.args.at c.args.piece.now (seen_of c.args.self.now))

pub returns-clause-crash : goal.returns-clause-crash
returns-clause-crash c = may_leave_more (Written c.args.file c.args.at c.args.piece.now) c.args.self.now c.put.new.self c.in_ok-put.ensures.makes.recorded

pub returns-clause-time : goal.returns-clause-time
returns-clause-time c = time_more (Written c.args.file c.args.at c.args.piece.now) c.args.self.now c.put.new.self c.in_ok-put.ensures.makes.recorded
