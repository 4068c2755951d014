use Rattle.std.proofs.Common.{◌≡◌, ◌+◌, length, ap, rules}
use Rattle.java_model.specs.StateFile.Cells.{cell_at}
use Rattle.index_states.proofs.Runs.{over_step, over_quiet, still_torn, write_respelled}
use Rattle.index_states.proofs.parts.write_cell.Goals as goal

pub returns-in_err-write_at-clause-any_moment : goal.returns-in_err-write_at-clause-any_moment
returns-in_err-write_at-clause-any_moment g c =
    let place : c.cell_at.result + 1 ≡ cell_at c.args.pair c.args.side + 1 = ap (λ n. n + 1) c.cell_at.ensures.value in
    let long : length c.args.cell.now ≡ 255 = search rules in
    let follows = write_respelled 1 _ _ _ _ _ _ place long c.write_at.ensures.crash in
    over_step g.D.Disk.moment g.D.Disk.left_since g.D.Disk.may_leave g.met.D.Disk.only_now c.args.disk.now c.write_at.new.self _ (still_torn 1 _ 255) follows c.write_at.ensures.time

pub returns-in_err-sync-clause-any_moment : goal.returns-in_err-sync-clause-any_moment
returns-in_err-sync-clause-any_moment g c =
    let place : c.cell_at.result + 1 ≡ cell_at c.args.pair c.args.side + 1 = ap (λ n. n + 1) c.cell_at.ensures.value in
    let long : length c.args.cell.now ≡ 255 = search rules in
    let follows = write_respelled 1 _ _ _ _ _ _ place long c.write_at.ensures.crash in
    over_quiet g.D.Disk.moment g.D.Disk.left_since g.D.Disk.may_leave g.met.D.Disk.only_now c.args.disk.now c.write_at.new.self c.sync.new.self _
    (over_step g.D.Disk.moment g.D.Disk.left_since g.D.Disk.may_leave g.met.D.Disk.only_now c.args.disk.now c.write_at.new.self _ (still_torn 1 _ 255) follows c.write_at.ensures.time)
    follows c.sync.ensures.crash c.sync.ensures.time

pub returns-clause-any_moment : goal.returns-clause-any_moment
returns-clause-any_moment g c =
    let place : c.cell_at.result + 1 ≡ cell_at c.args.pair c.args.side + 1 = ap (λ n. n + 1) c.cell_at.ensures.value in
    let long : length c.args.cell.now ≡ 255 = search rules in
    let follows = write_respelled 1 _ _ _ _ _ _ place long c.write_at.ensures.crash in
    over_quiet g.D.Disk.moment g.D.Disk.left_since g.D.Disk.may_leave g.met.D.Disk.only_now c.args.disk.now c.write_at.new.self c.sync.new.self _
    (over_step g.D.Disk.moment g.D.Disk.left_since g.D.Disk.may_leave g.met.D.Disk.only_now c.args.disk.now c.write_at.new.self _ (still_torn 1 _ 255) follows c.write_at.ensures.time)
    follows c.sync.ensures.crash c.sync.ensures.time
