use Rattle.index_store.proofs.Fresh.{made_run, made_recovers, made_told, honest_mid}
use Rattle.index_store.proofs.opening.open_table.Goals as goal

pub returns-in_err-make_ready-clause-any_moment : goal.returns-in_err-make_ready-clause-any_moment
returns-in_err-make_ready-clause-any_moment g c honest stable =
    made_run g.D.Disk.moment g.D.Disk.left_since g.D.Disk.may_leave g.D.Disk.seen g.D.Disk.is_honest c.args.disk.now c.load.new.disk c.make_ready.new.disk c.in_ok-states.states
    c.load.ensures.reads c.if-states.false (c.in_ok-states.ensures.told honest) honest stable c.make_ready.ensures.any_moment

pub returns-clause-told : goal.returns-clause-told
returns-clause-told g c honest =
    made_told g.D.Disk.moment g.D.Disk.left_since g.D.Disk.may_leave g.D.Disk.seen g.D.Disk.is_honest c.args.disk.now c.load.new.disk c.make_ready.new.disk c.in_ok-states.states
    c.load.ensures.reads c.if-states.false (c.in_ok-states.ensures.told honest)
    (c.in_ok-make_ready.ensures.made
    (honest_mid g.D.Disk.moment g.D.Disk.left_since g.D.Disk.may_leave g.D.Disk.seen g.D.Disk.is_honest c.args.disk.now c.load.new.disk c.make_ready.new.disk c.in_ok-states.states
    c.load.ensures.reads c.if-states.false (c.in_ok-states.ensures.told honest) honest))

pub returns-clause-recovers : goal.returns-clause-recovers
returns-clause-recovers g c honest =
    made_recovers g.D.Disk.moment g.D.Disk.left_since g.D.Disk.may_leave g.D.Disk.seen g.D.Disk.is_honest c.args.disk.now c.load.new.disk c.make_ready.new.disk c.in_ok-states.states
    c.load.ensures.reads c.if-states.false (c.in_ok-states.ensures.told honest)
    (c.in_ok-make_ready.ensures.made
    (honest_mid g.D.Disk.moment g.D.Disk.left_since g.D.Disk.may_leave g.D.Disk.seen g.D.Disk.is_honest c.args.disk.now c.load.new.disk c.make_ready.new.disk c.in_ok-states.states
    c.load.ensures.reads c.if-states.false (c.in_ok-states.ensures.told honest) honest))

pub returns-clause-any_moment : goal.returns-clause-any_moment
returns-clause-any_moment g c honest stable =
    made_run g.D.Disk.moment g.D.Disk.left_since g.D.Disk.may_leave g.D.Disk.seen g.D.Disk.is_honest c.args.disk.now c.load.new.disk c.make_ready.new.disk c.in_ok-states.states
    c.load.ensures.reads c.if-states.false (c.in_ok-states.ensures.told honest) honest stable c.make_ready.ensures.any_moment
