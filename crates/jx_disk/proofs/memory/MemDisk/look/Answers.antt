use Rattle.jx_disk.proofs.MemoryCalls.{is_quiet, recorded_quiet}
use Rattle.jx_disk.proofs.memory.MemDisk.look.Goals as goal

pub returns-in_err-change-clause-same : goal.returns-in_err-change-clause-same
returns-in_err-change-clause-same c = (is_quiet c.args.self.now c.change.new.self c.in_err-change.ensures.makes.looked).same

pub returns-in_err-change-clause-crash : goal.returns-in_err-change-clause-crash
returns-in_err-change-clause-crash c = (is_quiet c.args.self.now c.change.new.self c.in_err-change.ensures.makes.looked).crash

pub returns-in_err-change-clause-time : goal.returns-in_err-change-clause-time
returns-in_err-change-clause-time c = (is_quiet c.args.self.now c.change.new.self c.in_err-change.ensures.makes.looked).time

pub returns-clause-same : goal.returns-clause-same
returns-clause-same c = (recorded_quiet c.args.self.now c.change.new.self c.in_ok-change.ensures.makes.recorded).same

pub returns-clause-crash : goal.returns-clause-crash
returns-clause-crash c = (recorded_quiet c.args.self.now c.change.new.self c.in_ok-change.ensures.makes.recorded).crash

pub returns-clause-time : goal.returns-clause-time
returns-clause-time c = (recorded_quiet c.args.self.now c.change.new.self c.in_ok-change.ensures.makes.recorded).time
