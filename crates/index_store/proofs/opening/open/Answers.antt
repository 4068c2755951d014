use Rattle.std.proofs.Common.{IsTrue, IfOk, sym, subst}
use Rattle.java_model.specs.StateFile.Recovered.{Files}
use Rattle.index_store.specs.Opened.{OpensAs, Finds}
use Rattle.index_store.proofs.Fresh.{same_files, stable_synced, sync_and_run, from_sync}
use Rattle.index_store.proofs.SaveLaws.{any_ok}
use Rattle.index_store.proofs.opening.open.Goals as goal

pub returns-clause-opened : goal.returns-clause-opened
returns-clause-opened g c honest =
    let honest_now : IsTrue (g.D.Disk.is_honest c.sync.new.self) = subst IsTrue (sym c.sync.ensures.honest) honest in
    let stable = stable_synced g.D.Disk.moment g.D.Disk.left_since g.D.Disk.may_leave g.D.Disk.seen g.D.Disk.is_honest g.met.D.Disk.only_now c.args.disk.now c.sync.new.self c.open_synced.new.disk
    c.sync.ensures.same c.sync.ensures.crash c.sync.ensures.time (c.in_ok-sync.ensures.stable honest) in
    subst (λ (files : Files). IfOk c.open_synced.result (λ opened. OpensAs g.D.Disk.may_leave files opened.0.entries.items c.open_synced.new.disk))
    (same_files (g.D.Disk.seen c.args.disk.now) (g.D.Disk.seen c.sync.new.self) c.sync.ensures.same) (c.open_synced.ensures.opened honest_now stable)

pub returns-clause-found : goal.returns-clause-found
returns-clause-found g c honest =
    let honest_now : IsTrue (g.D.Disk.is_honest c.sync.new.self) = subst IsTrue (sym c.sync.ensures.honest) honest in
    subst (λ (files : Files). IfOk c.open_synced.result (λ opened. Finds files opened.1.items))
    (same_files (g.D.Disk.seen c.args.disk.now) (g.D.Disk.seen c.sync.new.self) c.sync.ensures.same) (c.open_synced.ensures.found honest_now)

pub returns-clause-any_moment : goal.returns-clause-any_moment
returns-clause-any_moment g c honest =
    let honest_now : IsTrue (g.D.Disk.is_honest c.sync.new.self) = subst IsTrue (sym c.sync.ensures.honest) honest in
    let stable = stable_synced g.D.Disk.moment g.D.Disk.left_since g.D.Disk.may_leave g.D.Disk.seen g.D.Disk.is_honest g.met.D.Disk.only_now c.args.disk.now c.sync.new.self c.open_synced.new.disk
    c.sync.ensures.same c.sync.ensures.crash c.sync.ensures.time (c.in_ok-sync.ensures.stable honest) in
    sync_and_run g.D.Disk.moment g.D.Disk.left_since g.D.Disk.may_leave g.D.Disk.seen g.D.Disk.is_honest g.met.D.Disk.only_now c.args.disk.now c.sync.new.self c.open_synced.new.disk
    c.sync.ensures.same c.sync.ensures.crash c.sync.ensures.time (c.open_synced.ensures.any_moment honest_now stable)

pub returns-clause-since_sync : goal.returns-clause-since_sync
returns-clause-since_sync g c honest =
    let honest_now : IsTrue (g.D.Disk.is_honest c.sync.new.self) = subst IsTrue (sym c.sync.ensures.honest) honest in
    let stable = stable_synced g.D.Disk.moment g.D.Disk.left_since g.D.Disk.may_leave g.D.Disk.seen g.D.Disk.is_honest g.met.D.Disk.only_now c.args.disk.now c.sync.new.self c.open_synced.new.disk
    c.sync.ensures.same c.sync.ensures.crash c.sync.ensures.time (c.in_ok-sync.ensures.stable honest) in
    any_ok c.open_synced.result
    (from_sync g.D.Disk.moment g.D.Disk.left_since g.D.Disk.may_leave g.D.Disk.seen g.D.Disk.is_honest g.met.D.Disk.only_now c.args.disk.now c.sync.new.self c.open_synced.new.disk
    c.sync.ensures.same c.sync.ensures.crash c.sync.ensures.time (c.open_synced.ensures.any_moment honest_now stable))
