use Rattle.std.proofs.Common.{◌≡◌, ◌<◌, IsTrue, [], ℕ, length, take, sym, ap, subst, arith, rules}
use Rattle.java_model.specs.StateFile.Recovered.{slot}
use Rattle.index_store.proofs.SaveStages.{close_recovers, close_fits, close_staged, cell_recovers, cell_staged, staged_fit, behind_written, open_recovers, open_fits, opened_all}
use Rattle.index_store.proofs.saving.save_mark.Goals as goal

pub returns-in_err-close_cell-clause-any_moment : goal.returns-in_err-close_cell-clause-any_moment
returns-in_err-close_cell-clause-any_moment g c acks says honest fit target spelled sized =
    let low : c.args.pair < 256 = omega arith in
    let run1 = c.close_cell.ensures.any_moment honest in
    close_recovers g.D.Disk.moment g.D.Disk.left_since g.D.Disk.may_leave g.D.Disk.seen g.met.D.Disk.counts_now g.met.D.Disk.seen_may_stay c.args.pair c.args.side low c.requires acks says [] c.args.cell.now c.args.disk.now fit target c.close_cell.new.disk run1

pub returns-in_err-close_cell-clause-fits : goal.returns-in_err-close_cell-clause-fits
returns-in_err-close_cell-clause-fits g c acks says honest fit target spelled sized =
    let low : c.args.pair < 256 = omega arith in
    let run1 = c.close_cell.ensures.any_moment honest in
    close_fits g.D.Disk.moment g.D.Disk.left_since g.D.Disk.may_leave g.D.Disk.seen g.met.D.Disk.counts_now g.met.D.Disk.seen_may_stay c.args.pair c.args.side low c.requires acks says [] c.args.cell.now c.args.disk.now fit target c.close_cell.new.disk run1

pub returns-in_err-write_cell-clause-any_moment : goal.returns-in_err-write_cell-clause-any_moment
returns-in_err-write_cell-clause-any_moment g c acks says honest fit target spelled sized =
    let low : c.args.pair < 256 = omega arith in
    let run1 = c.close_cell.ensures.any_moment honest in
    let recovers1 = close_recovers g.D.Disk.moment g.D.Disk.left_since g.D.Disk.may_leave g.D.Disk.seen g.met.D.Disk.counts_now g.met.D.Disk.seen_may_stay c.args.pair c.args.side low c.requires acks says [] c.args.cell.now c.args.disk.now fit target c.close_cell.new.disk run1 in
    let staged1 = close_staged g.D.Disk.moment g.D.Disk.left_since g.D.Disk.may_leave g.D.Disk.seen g.met.D.Disk.counts_now g.met.D.Disk.seen_may_stay c.args.pair c.args.side low c.requires acks says [] c.args.cell.now c.args.disk.now fit target c.close_cell.new.disk run1 (c.in_ok-close_cell.ensures.closed honest) (c.in_ok-close_cell.ensures.stable honest) in
    cell_recovers g.D.Disk.moment g.D.Disk.left_since g.D.Disk.may_leave g.D.Disk.seen g.met.D.Disk.counts_now g.met.D.Disk.seen_may_stay c.args.pair c.args.side low c.requires acks says [] c.args.cell.now c.args.disk.now fit target c.close_cell.new.disk c.write_cell.new.disk staged1 recovers1 c.write_cell.ensures.any_moment

pub returns-in_err-write_cell-clause-fits : goal.returns-in_err-write_cell-clause-fits
returns-in_err-write_cell-clause-fits g c acks says honest fit target spelled sized =
    let low : c.args.pair < 256 = omega arith in
    let run1 = c.close_cell.ensures.any_moment honest in
    let recovers1 = close_recovers g.D.Disk.moment g.D.Disk.left_since g.D.Disk.may_leave g.D.Disk.seen g.met.D.Disk.counts_now g.met.D.Disk.seen_may_stay c.args.pair c.args.side low c.requires acks says [] c.args.cell.now c.args.disk.now fit target c.close_cell.new.disk run1 in
    let staged1 = close_staged g.D.Disk.moment g.D.Disk.left_since g.D.Disk.may_leave g.D.Disk.seen g.met.D.Disk.counts_now g.met.D.Disk.seen_may_stay c.args.pair c.args.side low c.requires acks says [] c.args.cell.now c.args.disk.now fit target c.close_cell.new.disk run1 (c.in_ok-close_cell.ensures.closed honest) (c.in_ok-close_cell.ensures.stable honest) in
    staged_fit g.D.Disk.moment g.D.Disk.left_since g.D.Disk.may_leave g.D.Disk.seen g.met.D.Disk.counts_now g.met.D.Disk.seen_may_stay c.args.pair c.args.side low c.requires acks says [] c.args.cell.now c.args.disk.now fit target c.write_cell.new.disk (cell_staged g.D.Disk.moment g.D.Disk.left_since g.D.Disk.may_leave g.D.Disk.seen g.met.D.Disk.counts_now g.met.D.Disk.seen_may_stay c.args.pair c.args.side low c.requires acks says [] c.args.cell.now c.args.disk.now fit target c.close_cell.new.disk c.write_cell.new.disk staged1 c.write_cell.ensures.any_moment)

pub returns-in_err-open_cell-clause-any_moment : goal.returns-in_err-open_cell-clause-any_moment
returns-in_err-open_cell-clause-any_moment g c acks says honest fit target spelled sized =
    let low : c.args.pair < 256 = omega arith in
    let run1 = c.close_cell.ensures.any_moment honest in
    let recovers1 = close_recovers g.D.Disk.moment g.D.Disk.left_since g.D.Disk.may_leave g.D.Disk.seen g.met.D.Disk.counts_now g.met.D.Disk.seen_may_stay c.args.pair c.args.side low c.requires acks says [] c.args.cell.now c.args.disk.now fit target c.close_cell.new.disk run1 in
    let staged1 = close_staged g.D.Disk.moment g.D.Disk.left_since g.D.Disk.may_leave g.D.Disk.seen g.met.D.Disk.counts_now g.met.D.Disk.seen_may_stay c.args.pair c.args.side low c.requires acks says [] c.args.cell.now c.args.disk.now fit target c.close_cell.new.disk run1 (c.in_ok-close_cell.ensures.closed honest) (c.in_ok-close_cell.ensures.stable honest) in
    let recovers3 = cell_recovers g.D.Disk.moment g.D.Disk.left_since g.D.Disk.may_leave g.D.Disk.seen g.met.D.Disk.counts_now g.met.D.Disk.seen_may_stay c.args.pair c.args.side low c.requires acks says [] c.args.cell.now c.args.disk.now fit target c.close_cell.new.disk c.write_cell.new.disk staged1 recovers1 c.write_cell.ensures.any_moment in
    let staged3 = cell_staged g.D.Disk.moment g.D.Disk.left_since g.D.Disk.may_leave g.D.Disk.seen g.met.D.Disk.counts_now g.met.D.Disk.seen_may_stay c.args.pair c.args.side low c.requires acks says [] c.args.cell.now c.args.disk.now fit target c.close_cell.new.disk c.write_cell.new.disk staged1 c.write_cell.ensures.any_moment in
    let honest1 : IsTrue (g.D.Disk.is_honest c.close_cell.new.disk) = subst IsTrue (sym c.close_cell.ensures.honest) honest in
    let long : length c.args.cell.now ≡ 255 = search rules in
    let behind = behind_written g.D.Disk.moment g.D.Disk.left_since g.D.Disk.may_leave g.D.Disk.seen g.met.D.Disk.counts_now g.met.D.Disk.seen_may_stay c.args.pair c.args.side low c.requires acks says [] c.args.cell.now c.args.disk.now fit target c.close_cell.new.disk c.write_cell.new.disk staged1 long (c.in_ok-write_cell.ensures.written honest1) in
    let stored : take says.size (g.D.Disk.seen c.write_cell.new.disk (slot c.args.pair c.args.side)) ≡ [] = ap (λ (n : ℕ). take n (g.D.Disk.seen c.write_cell.new.disk (slot c.args.pair c.args.side))) sized in
    let stable3 = c.in_ok-write_cell.ensures.stable honest1 in
    open_recovers g.D.Disk.moment g.D.Disk.left_since g.D.Disk.may_leave g.D.Disk.seen g.met.D.Disk.counts_now g.met.D.Disk.seen_may_stay c.args.pair c.args.side low c.requires acks says [] c.args.cell.now c.args.disk.now fit target long spelled c.write_cell.new.disk staged3 stable3 behind stored c.open_cell.new.disk recovers3 c.open_cell.ensures.any_moment

pub returns-in_err-open_cell-clause-fits : goal.returns-in_err-open_cell-clause-fits
returns-in_err-open_cell-clause-fits g c acks says honest fit target spelled sized =
    let low : c.args.pair < 256 = omega arith in
    let run1 = c.close_cell.ensures.any_moment honest in
    let recovers1 = close_recovers g.D.Disk.moment g.D.Disk.left_since g.D.Disk.may_leave g.D.Disk.seen g.met.D.Disk.counts_now g.met.D.Disk.seen_may_stay c.args.pair c.args.side low c.requires acks says [] c.args.cell.now c.args.disk.now fit target c.close_cell.new.disk run1 in
    let staged1 = close_staged g.D.Disk.moment g.D.Disk.left_since g.D.Disk.may_leave g.D.Disk.seen g.met.D.Disk.counts_now g.met.D.Disk.seen_may_stay c.args.pair c.args.side low c.requires acks says [] c.args.cell.now c.args.disk.now fit target c.close_cell.new.disk run1 (c.in_ok-close_cell.ensures.closed honest) (c.in_ok-close_cell.ensures.stable honest) in
    let recovers3 = cell_recovers g.D.Disk.moment g.D.Disk.left_since g.D.Disk.may_leave g.D.Disk.seen g.met.D.Disk.counts_now g.met.D.Disk.seen_may_stay c.args.pair c.args.side low c.requires acks says [] c.args.cell.now c.args.disk.now fit target c.close_cell.new.disk c.write_cell.new.disk staged1 recovers1 c.write_cell.ensures.any_moment in
    let staged3 = cell_staged g.D.Disk.moment g.D.Disk.left_since g.D.Disk.may_leave g.D.Disk.seen g.met.D.Disk.counts_now g.met.D.Disk.seen_may_stay c.args.pair c.args.side low c.requires acks says [] c.args.cell.now c.args.disk.now fit target c.close_cell.new.disk c.write_cell.new.disk staged1 c.write_cell.ensures.any_moment in
    let honest1 : IsTrue (g.D.Disk.is_honest c.close_cell.new.disk) = subst IsTrue (sym c.close_cell.ensures.honest) honest in
    let long : length c.args.cell.now ≡ 255 = search rules in
    let behind = behind_written g.D.Disk.moment g.D.Disk.left_since g.D.Disk.may_leave g.D.Disk.seen g.met.D.Disk.counts_now g.met.D.Disk.seen_may_stay c.args.pair c.args.side low c.requires acks says [] c.args.cell.now c.args.disk.now fit target c.close_cell.new.disk c.write_cell.new.disk staged1 long (c.in_ok-write_cell.ensures.written honest1) in
    let stored : take says.size (g.D.Disk.seen c.write_cell.new.disk (slot c.args.pair c.args.side)) ≡ [] = ap (λ (n : ℕ). take n (g.D.Disk.seen c.write_cell.new.disk (slot c.args.pair c.args.side))) sized in
    let stable3 = c.in_ok-write_cell.ensures.stable honest1 in
    open_fits g.D.Disk.moment g.D.Disk.left_since g.D.Disk.may_leave g.D.Disk.seen g.met.D.Disk.counts_now g.met.D.Disk.seen_may_stay c.args.pair c.args.side low c.requires acks says [] c.args.cell.now c.args.disk.now fit target long spelled c.write_cell.new.disk staged3 stable3 behind stored c.open_cell.new.disk c.open_cell.ensures.any_moment

pub returns-clause-any_moment : goal.returns-clause-any_moment
returns-clause-any_moment g c acks says honest fit target spelled sized =
    let low : c.args.pair < 256 = omega arith in
    let run1 = c.close_cell.ensures.any_moment honest in
    let recovers1 = close_recovers g.D.Disk.moment g.D.Disk.left_since g.D.Disk.may_leave g.D.Disk.seen g.met.D.Disk.counts_now g.met.D.Disk.seen_may_stay c.args.pair c.args.side low c.requires acks says [] c.args.cell.now c.args.disk.now fit target c.close_cell.new.disk run1 in
    let staged1 = close_staged g.D.Disk.moment g.D.Disk.left_since g.D.Disk.may_leave g.D.Disk.seen g.met.D.Disk.counts_now g.met.D.Disk.seen_may_stay c.args.pair c.args.side low c.requires acks says [] c.args.cell.now c.args.disk.now fit target c.close_cell.new.disk run1 (c.in_ok-close_cell.ensures.closed honest) (c.in_ok-close_cell.ensures.stable honest) in
    let recovers3 = cell_recovers g.D.Disk.moment g.D.Disk.left_since g.D.Disk.may_leave g.D.Disk.seen g.met.D.Disk.counts_now g.met.D.Disk.seen_may_stay c.args.pair c.args.side low c.requires acks says [] c.args.cell.now c.args.disk.now fit target c.close_cell.new.disk c.write_cell.new.disk staged1 recovers1 c.write_cell.ensures.any_moment in
    let staged3 = cell_staged g.D.Disk.moment g.D.Disk.left_since g.D.Disk.may_leave g.D.Disk.seen g.met.D.Disk.counts_now g.met.D.Disk.seen_may_stay c.args.pair c.args.side low c.requires acks says [] c.args.cell.now c.args.disk.now fit target c.close_cell.new.disk c.write_cell.new.disk staged1 c.write_cell.ensures.any_moment in
    let honest1 : IsTrue (g.D.Disk.is_honest c.close_cell.new.disk) = subst IsTrue (sym c.close_cell.ensures.honest) honest in
    let long : length c.args.cell.now ≡ 255 = search rules in
    let behind = behind_written g.D.Disk.moment g.D.Disk.left_since g.D.Disk.may_leave g.D.Disk.seen g.met.D.Disk.counts_now g.met.D.Disk.seen_may_stay c.args.pair c.args.side low c.requires acks says [] c.args.cell.now c.args.disk.now fit target c.close_cell.new.disk c.write_cell.new.disk staged1 long (c.in_ok-write_cell.ensures.written honest1) in
    let stored : take says.size (g.D.Disk.seen c.write_cell.new.disk (slot c.args.pair c.args.side)) ≡ [] = ap (λ (n : ℕ). take n (g.D.Disk.seen c.write_cell.new.disk (slot c.args.pair c.args.side))) sized in
    let stable3 = c.in_ok-write_cell.ensures.stable honest1 in
    open_recovers g.D.Disk.moment g.D.Disk.left_since g.D.Disk.may_leave g.D.Disk.seen g.met.D.Disk.counts_now g.met.D.Disk.seen_may_stay c.args.pair c.args.side low c.requires acks says [] c.args.cell.now c.args.disk.now fit target long spelled c.write_cell.new.disk staged3 stable3 behind stored c.open_cell.new.disk recovers3 c.open_cell.ensures.any_moment

pub returns-clause-fits : goal.returns-clause-fits
returns-clause-fits g c acks says honest fit target spelled sized =
    let low : c.args.pair < 256 = omega arith in
    let run1 = c.close_cell.ensures.any_moment honest in
    let recovers1 = close_recovers g.D.Disk.moment g.D.Disk.left_since g.D.Disk.may_leave g.D.Disk.seen g.met.D.Disk.counts_now g.met.D.Disk.seen_may_stay c.args.pair c.args.side low c.requires acks says [] c.args.cell.now c.args.disk.now fit target c.close_cell.new.disk run1 in
    let staged1 = close_staged g.D.Disk.moment g.D.Disk.left_since g.D.Disk.may_leave g.D.Disk.seen g.met.D.Disk.counts_now g.met.D.Disk.seen_may_stay c.args.pair c.args.side low c.requires acks says [] c.args.cell.now c.args.disk.now fit target c.close_cell.new.disk run1 (c.in_ok-close_cell.ensures.closed honest) (c.in_ok-close_cell.ensures.stable honest) in
    let recovers3 = cell_recovers g.D.Disk.moment g.D.Disk.left_since g.D.Disk.may_leave g.D.Disk.seen g.met.D.Disk.counts_now g.met.D.Disk.seen_may_stay c.args.pair c.args.side low c.requires acks says [] c.args.cell.now c.args.disk.now fit target c.close_cell.new.disk c.write_cell.new.disk staged1 recovers1 c.write_cell.ensures.any_moment in
    let staged3 = cell_staged g.D.Disk.moment g.D.Disk.left_since g.D.Disk.may_leave g.D.Disk.seen g.met.D.Disk.counts_now g.met.D.Disk.seen_may_stay c.args.pair c.args.side low c.requires acks says [] c.args.cell.now c.args.disk.now fit target c.close_cell.new.disk c.write_cell.new.disk staged1 c.write_cell.ensures.any_moment in
    let honest1 : IsTrue (g.D.Disk.is_honest c.close_cell.new.disk) = subst IsTrue (sym c.close_cell.ensures.honest) honest in
    let long : length c.args.cell.now ≡ 255 = search rules in
    let behind = behind_written g.D.Disk.moment g.D.Disk.left_since g.D.Disk.may_leave g.D.Disk.seen g.met.D.Disk.counts_now g.met.D.Disk.seen_may_stay c.args.pair c.args.side low c.requires acks says [] c.args.cell.now c.args.disk.now fit target c.close_cell.new.disk c.write_cell.new.disk staged1 long (c.in_ok-write_cell.ensures.written honest1) in
    let stored : take says.size (g.D.Disk.seen c.write_cell.new.disk (slot c.args.pair c.args.side)) ≡ [] = ap (λ (n : ℕ). take n (g.D.Disk.seen c.write_cell.new.disk (slot c.args.pair c.args.side))) sized in
    let stable3 = c.in_ok-write_cell.ensures.stable honest1 in
    open_fits g.D.Disk.moment g.D.Disk.left_since g.D.Disk.may_leave g.D.Disk.seen g.met.D.Disk.counts_now g.met.D.Disk.seen_may_stay c.args.pair c.args.side low c.requires acks says [] c.args.cell.now c.args.disk.now fit target long spelled c.write_cell.new.disk staged3 stable3 behind stored c.open_cell.new.disk c.open_cell.ensures.any_moment

pub returns-clause-saved : goal.returns-clause-saved
returns-clause-saved g c acks says honest fit target spelled sized =
    let low : c.args.pair < 256 = omega arith in
    let run1 = c.close_cell.ensures.any_moment honest in
    let recovers1 = close_recovers g.D.Disk.moment g.D.Disk.left_since g.D.Disk.may_leave g.D.Disk.seen g.met.D.Disk.counts_now g.met.D.Disk.seen_may_stay c.args.pair c.args.side low c.requires acks says [] c.args.cell.now c.args.disk.now fit target c.close_cell.new.disk run1 in
    let staged1 = close_staged g.D.Disk.moment g.D.Disk.left_since g.D.Disk.may_leave g.D.Disk.seen g.met.D.Disk.counts_now g.met.D.Disk.seen_may_stay c.args.pair c.args.side low c.requires acks says [] c.args.cell.now c.args.disk.now fit target c.close_cell.new.disk run1 (c.in_ok-close_cell.ensures.closed honest) (c.in_ok-close_cell.ensures.stable honest) in
    let recovers3 = cell_recovers g.D.Disk.moment g.D.Disk.left_since g.D.Disk.may_leave g.D.Disk.seen g.met.D.Disk.counts_now g.met.D.Disk.seen_may_stay c.args.pair c.args.side low c.requires acks says [] c.args.cell.now c.args.disk.now fit target c.close_cell.new.disk c.write_cell.new.disk staged1 recovers1 c.write_cell.ensures.any_moment in
    let staged3 = cell_staged g.D.Disk.moment g.D.Disk.left_since g.D.Disk.may_leave g.D.Disk.seen g.met.D.Disk.counts_now g.met.D.Disk.seen_may_stay c.args.pair c.args.side low c.requires acks says [] c.args.cell.now c.args.disk.now fit target c.close_cell.new.disk c.write_cell.new.disk staged1 c.write_cell.ensures.any_moment in
    let honest1 : IsTrue (g.D.Disk.is_honest c.close_cell.new.disk) = subst IsTrue (sym c.close_cell.ensures.honest) honest in
    let long : length c.args.cell.now ≡ 255 = search rules in
    let behind = behind_written g.D.Disk.moment g.D.Disk.left_since g.D.Disk.may_leave g.D.Disk.seen g.met.D.Disk.counts_now g.met.D.Disk.seen_may_stay c.args.pair c.args.side low c.requires acks says [] c.args.cell.now c.args.disk.now fit target c.close_cell.new.disk c.write_cell.new.disk staged1 long (c.in_ok-write_cell.ensures.written honest1) in
    let stored : take says.size (g.D.Disk.seen c.write_cell.new.disk (slot c.args.pair c.args.side)) ≡ [] = ap (λ (n : ℕ). take n (g.D.Disk.seen c.write_cell.new.disk (slot c.args.pair c.args.side))) sized in
    let stable3 = c.in_ok-write_cell.ensures.stable honest1 in
    let honest3 : IsTrue (g.D.Disk.is_honest c.write_cell.new.disk) = subst IsTrue (sym c.write_cell.ensures.honest) honest1 in
    opened_all g.D.Disk.moment g.D.Disk.left_since g.D.Disk.may_leave g.D.Disk.seen g.met.D.Disk.counts_now g.met.D.Disk.seen_may_stay c.args.pair c.args.side low c.requires acks says [] c.args.cell.now c.args.disk.now fit target long spelled c.write_cell.new.disk staged3 stable3 behind stored c.open_cell.new.disk c.open_cell.ensures.any_moment (c.in_ok-open_cell.ensures.written honest3) (c.in_ok-open_cell.ensures.stable honest3)
