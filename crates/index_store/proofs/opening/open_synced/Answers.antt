use Rattle.std.proofs.Common.{List, Option, IsTrue, sym, subst}
use Rattle.index_states.specs.declared.cell.Cell.{Cell}
use Rattle.index_store.specs.Opened.{FindsBelow}
use Rattle.index_store.proofs.Opened.{opens}
use Rattle.index_store.proofs.Finding.{finds, finds_as}
use Rattle.index_store.proofs.opening.open_synced.Goals as goal

pub returns-clause-opened : goal.returns-clause-opened
returns-clause-opened g c honest stable =
    let mid = c.open_table.new.disk in
    opens g.D.Disk.may_leave (g.D.Disk.seen c.args.disk.now) (g.D.Disk.seen mid) c.in_ok-table.table.entries.items c.find_all.new.disk
    (c.in_ok-table.ensures.told honest)
    (λ image left. c.in_ok-table.ensures.stable honest stable image (c.find_all.ensures.reads.crash image left))
    (c.in_ok-table.ensures.recovers honest)

pub returns-clause-found : goal.returns-clause-found
returns-clause-found g c honest =
    let mid = c.open_table.new.disk in
    let honest_mid : IsTrue (g.D.Disk.is_honest mid) = subst IsTrue (sym c.open_table.ensures.honest) honest in
    finds_as (g.D.Disk.seen c.args.disk.now) (g.D.Disk.seen mid) c.in_ok-found.found.items (c.in_ok-table.ensures.recovers honest)
    (finds (g.D.Disk.seen mid) c.in_ok-table.table.entries.items (c.in_ok-table.ensures.told honest) c.in_ok-found.found.items
    (subst (λ (t : List (Option Cell)). FindsBelow (g.D.Disk.seen mid) t 256 c.in_ok-found.found.items) c.deref.ensures.value (c.in_ok-found.ensures.found honest_mid)))
