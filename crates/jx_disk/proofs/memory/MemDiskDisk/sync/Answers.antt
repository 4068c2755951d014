use Rattle.jx_disk.specs.Calls.{Synced}
use Rattle.jx_disk.proofs.MemoryCalls.{is_quiet, seen_more, may_leave_more, time_more, within_synced}
use Rattle.jx_disk.proofs.memory.MemDiskDisk.sync.Goals as goal

pub returns-in_err-change-clause-same : goal.returns-in_err-change-clause-same
returns-in_err-change-clause-same c = (is_quiet c.args.self.now c.change.new.self c.in_err-change.ensures.makes.looked).same

pub returns-in_err-change-clause-crash : goal.returns-in_err-change-clause-crash
returns-in_err-change-clause-crash c = (is_quiet c.args.self.now c.change.new.self c.in_err-change.ensures.makes.looked).crash

pub returns-in_err-change-clause-time : goal.returns-in_err-change-clause-time
returns-in_err-change-clause-time c = (is_quiet c.args.self.now c.change.new.self c.in_err-change.ensures.makes.looked).time

pub returns-clause-stable : goal.returns-clause-stable
returns-clause-stable c = may_leave_more Synced c.args.self.now c.change.new.self c.in_ok-change.ensures.makes.recorded

pub returns-clause-same : goal.returns-clause-same
returns-clause-same c = seen_more Synced c.args.self.now c.change.new.self c.in_ok-change.ensures.makes.recorded

pub returns-clause-crash : goal.returns-clause-crash
returns-clause-crash c = within_synced c.args.self.now c.change.new.self c.in_ok-change.ensures.makes.recorded

pub returns-clause-time : goal.returns-clause-time
returns-clause-time c = time_more Synced c.args.self.now c.change.new.self c.in_ok-change.ensures.makes.recorded
