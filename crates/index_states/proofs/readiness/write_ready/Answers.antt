use Rattle.std.proofs.Common.{refl}
use Rattle.index_states.specs.Parts.{ChangesOnly}
use Rattle.index_states.proofs.Runs.{over_step, over_quiet, follows_only}
use Rattle.index_states.proofs.readiness.write_ready.Goals as goal

pub returns-in_err-sync-clause-any_moment : goal.returns-in_err-sync-clause-any_moment
returns-in_err-sync-clause-any_moment g c =
    let follows = follows_only 0 0 _ _ _ refl c.write_at.ensures.crash in
    over_quiet g.D.Disk.moment g.D.Disk.left_since g.D.Disk.may_leave g.met.D.Disk.only_now c.args.disk.now c.write_at.new.self c.sync.new.self _
    (over_step g.D.Disk.moment g.D.Disk.left_since g.D.Disk.may_leave g.met.D.Disk.only_now c.args.disk.now c.write_at.new.self (ChangesOnly 0) (λ image other apart. refl) follows c.write_at.ensures.time)
    follows c.sync.ensures.crash c.sync.ensures.time

pub returns-clause-any_moment : goal.returns-clause-any_moment
returns-clause-any_moment g c =
    let follows = follows_only 0 0 _ _ _ refl c.write_at.ensures.crash in
    over_quiet g.D.Disk.moment g.D.Disk.left_since g.D.Disk.may_leave g.met.D.Disk.only_now c.args.disk.now c.write_at.new.self c.sync.new.self _
    (over_step g.D.Disk.moment g.D.Disk.left_since g.D.Disk.may_leave g.met.D.Disk.only_now c.args.disk.now c.write_at.new.self (ChangesOnly 0) (λ image other apart. refl) follows c.write_at.ensures.time)
    follows c.sync.ensures.crash c.sync.ensures.time
