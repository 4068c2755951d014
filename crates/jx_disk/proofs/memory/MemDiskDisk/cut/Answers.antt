use Rattle.std.proofs.Common.{◌∙◌, refl, None}
use Rattle.jx_disk.specs.Disk.{TornCut}
use Rattle.jx_disk.specs.Calls.{Shortened, image_after}
use Rattle.jx_disk.specs.Memory.{seen_of}
use Rattle.jx_disk.specs.Steps.{shortened_here}
use Rattle.jx_disk.specs.MemoryLaws.{cuts_file}
use Rattle.jx_disk.proofs.MemoryCalls.{is_quiet, seen_more, may_leave_more, time_more, torn_cut_of_nothing, follows_cut, changes_as}
use Rattle.jx_disk.proofs.memory.MemDiskDisk.cut.Goals as goal

pub returns-in_err-change-clause-torn : goal.returns-in_err-change-clause-torn
returns-in_err-change-clause-torn c = torn_cut_of_nothing c.args.file c.args.len _ _ (is_quiet c.args.self.now c.change.new.self c.in_err-change.ensures.makes.looked).same

pub returns-in_err-change-clause-crash : goal.returns-in_err-change-clause-crash
returns-in_err-change-clause-crash c = follows_cut c.args.file c.args.len _ _ (is_quiet c.args.self.now c.change.new.self c.in_err-change.ensures.makes.looked).crash

pub returns-in_err-change-clause-time : goal.returns-in_err-change-clause-time
returns-in_err-change-clause-time c = (is_quiet c.args.self.now c.change.new.self c.in_err-change.ensures.makes.looked).time

pub returns-clause-shortened : goal.returns-clause-shortened
returns-clause-shortened c =
    seen_more (Shortened c.args.file c.args.len) c.args.self.now c.change.new.self c.in_ok-change.ensures.makes.recorded c.args.file
    ∙ shortened_here None c.args.file c.args.file c.args.len (seen_of c.args.self.now c.args.file) refl

pub returns-clause-torn : goal.returns-clause-torn
returns-clause-torn c =
    changes_as c.args.file (TornCut c.args.len) (seen_of c.args.self.now) (image_after None (Shortened c.args.file c.args.len) (seen_of c.args.self.now)) (seen_of c.change.new.self)
    (seen_more (Shortened c.args.file c.args.len) c.args.self.now c.change.new.self c.in_ok-change.ensures.makes.recorded)
    (cuts_file c.args.file c.args.len (seen_of c.args.self.now))

pub returns-clause-crash : goal.returns-clause-crash
returns-clause-crash c = may_leave_more (Shortened c.args.file c.args.len) c.args.self.now c.change.new.self c.in_ok-change.ensures.makes.recorded

pub returns-clause-time : goal.returns-clause-time
returns-clause-time c = time_more (Shortened c.args.file c.args.len) c.args.self.now c.change.new.self c.in_ok-change.ensures.makes.recorded
