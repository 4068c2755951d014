use Rattle.std.proofs.Common.{ℕ, refl}
use Rattle.index_states.specs.Parts.{ChangesOnly}
use Rattle.index_states.proofs.Runs.{over_step, over_quiet, then_step, follows_only, only_joined}
use Rattle.index_states.proofs.readiness.write_state.Goals as goal

pub returns-in_err-write_at-clause-any_moment : goal.returns-in_err-write_at-clause-any_moment
returns-in_err-write_at-clause-any_moment g c =
    let R : ℕ = 1 in
    let cut = follows_only 1 R _ _ _ refl c.cut.ensures.crash in
    let write = follows_only 1 R _ _ _ refl c.write_at.ensures.crash in
    let over_cut = over_step g.D.Disk.moment g.D.Disk.left_since g.D.Disk.may_leave g.met.D.Disk.only_now c.args.disk.now c.cut.new.self (ChangesOnly R) (λ image other apart. refl) cut c.cut.ensures.time in
    let over_write = over_step g.D.Disk.moment g.D.Disk.left_since g.D.Disk.may_leave g.met.D.Disk.only_now c.cut.new.self c.write_at.new.self (ChangesOnly R) (λ image other apart. refl) write c.write_at.ensures.time in
    let both = then_step g.D.Disk.moment g.D.Disk.left_since g.D.Disk.may_leave g.met.D.Disk.only_now c.args.disk.now c.cut.new.self c.write_at.new.self (ChangesOnly R) (ChangesOnly R) (ChangesOnly R) over_cut over_write cut (only_joined R) in
    both

pub returns-in_err-sync-clause-any_moment : goal.returns-in_err-sync-clause-any_moment
returns-in_err-sync-clause-any_moment g c =
    let R : ℕ = 1 in
    let cut = follows_only 1 R _ _ _ refl c.cut.ensures.crash in
    let write = follows_only 1 R _ _ _ refl c.write_at.ensures.crash in
    let over_cut = over_step g.D.Disk.moment g.D.Disk.left_since g.D.Disk.may_leave g.met.D.Disk.only_now c.args.disk.now c.cut.new.self (ChangesOnly R) (λ image other apart. refl) cut c.cut.ensures.time in
    let over_write = over_step g.D.Disk.moment g.D.Disk.left_since g.D.Disk.may_leave g.met.D.Disk.only_now c.cut.new.self c.write_at.new.self (ChangesOnly R) (λ image other apart. refl) write c.write_at.ensures.time in
    let both = then_step g.D.Disk.moment g.D.Disk.left_since g.D.Disk.may_leave g.met.D.Disk.only_now c.args.disk.now c.cut.new.self c.write_at.new.self (ChangesOnly R) (ChangesOnly R) (ChangesOnly R) over_cut over_write cut (only_joined R) in
    over_quiet g.D.Disk.moment g.D.Disk.left_since g.D.Disk.may_leave g.met.D.Disk.only_now c.args.disk.now c.write_at.new.self c.sync.new.self _ both
    (λ image left. let late = write image left in let was = cut late.0 late.1 in (was.0, was.1, only_joined R was.0 late.0 image was.2 late.2))
    c.sync.ensures.crash c.sync.ensures.time

pub returns-clause-any_moment : goal.returns-clause-any_moment
returns-clause-any_moment g c =
    let R : ℕ = 1 in
    let cut = follows_only 1 R _ _ _ refl c.cut.ensures.crash in
    let write = follows_only 1 R _ _ _ refl c.write_at.ensures.crash in
    let over_cut = over_step g.D.Disk.moment g.D.Disk.left_since g.D.Disk.may_leave g.met.D.Disk.only_now c.args.disk.now c.cut.new.self (ChangesOnly R) (λ image other apart. refl) cut c.cut.ensures.time in
    let over_write = over_step g.D.Disk.moment g.D.Disk.left_since g.D.Disk.may_leave g.met.D.Disk.only_now c.cut.new.self c.write_at.new.self (ChangesOnly R) (λ image other apart. refl) write c.write_at.ensures.time in
    let both = then_step g.D.Disk.moment g.D.Disk.left_since g.D.Disk.may_leave g.met.D.Disk.only_now c.args.disk.now c.cut.new.self c.write_at.new.self (ChangesOnly R) (ChangesOnly R) (ChangesOnly R) over_cut over_write cut (only_joined R) in
    over_quiet g.D.Disk.moment g.D.Disk.left_since g.D.Disk.may_leave g.met.D.Disk.only_now c.args.disk.now c.write_at.new.self c.sync.new.self _ both
    (λ image left. let late = write image left in let was = cut late.0 late.1 in (was.0, was.1, only_joined R was.0 late.0 image was.2 late.2))
    c.sync.ensures.crash c.sync.ensures.time
