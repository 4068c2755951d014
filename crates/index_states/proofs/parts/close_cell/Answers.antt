use Rattle.std.proofs.Common.{◌≡◌, ℕ, List, slice_index, IsTrue, sym, ap, ◌∙◌, subst, refl}
use Rattle.java_model.specs.StateFile.Cells.{cell_at}
use Rattle.index_states.proofs.Runs.{over_quiet, gate_torn, gate_written, write_respelled, byte_read}
use Rattle.index_states.proofs.parts.close_cell.Goals as goal

pub returns-in_err-write_at-clause-any_moment : goal.returns-in_err-write_at-clause-any_moment
returns-in_err-write_at-clause-any_moment g c honest =
    let at = cell_at c.args.pair c.args.side in
    let sync_honest : IsTrue (g.D.Disk.is_honest c.sync.new.self) = subst IsTrue (sym c.sync.ensures.honest) honest in
    let seen = g.D.Disk.seen c.args.disk.now in
    let is_open : slice_index (seen 1) at ≡ 1 =
    ap (λ (k : ℕ). slice_index (seen 1) k) (sym c.cell_at-gate.ensures.value)
    ∙ ap (λ (l : List ℕ). slice_index l c.cell_at-gate.result) (sym (c.sync.ensures.same 1))
    ∙ byte_read c.in_ok-read.read c.cell_at-gate.result c.read_at.new.buf (g.D.Disk.seen c.sync.new.self 1) c.if-read-eq1.true (c.in_ok-read.ensures.read sync_honest) c.if-byte-eq-OPEN.true in
    let follows = write_respelled 1 _ at 1 1 _ _ c.cell_at-gate.ensures.value refl c.write_at.ensures.crash in
    let stable = c.in_ok-sync.ensures.stable honest in
    gate_written g.D.Disk.moment g.D.Disk.left_since g.D.Disk.may_leave g.met.D.Disk.only_now g.D.Disk.seen c.args.disk.now c.sync.new.self c.read_at.new.self at (g.met.D.Disk.seen_may_stay c.args.disk.now)
    c.sync.ensures.crash c.sync.ensures.time stable c.read_at.ensures.crash c.read_at.ensures.time c.write_at.new.self is_open follows c.write_at.ensures.time

pub returns-in_err-sync-2-clause-any_moment : goal.returns-in_err-sync-2-clause-any_moment
returns-in_err-sync-2-clause-any_moment g c honest =
    let at = cell_at c.args.pair c.args.side in
    let sync_honest : IsTrue (g.D.Disk.is_honest c.sync.new.self) = subst IsTrue (sym c.sync.ensures.honest) honest in
    let seen = g.D.Disk.seen c.args.disk.now in
    let is_open : slice_index (seen 1) at ≡ 1 =
    ap (λ (k : ℕ). slice_index (seen 1) k) (sym c.cell_at-gate.ensures.value)
    ∙ ap (λ (l : List ℕ). slice_index l c.cell_at-gate.result) (sym (c.sync.ensures.same 1))
    ∙ byte_read c.in_ok-read.read c.cell_at-gate.result c.read_at.new.buf (g.D.Disk.seen c.sync.new.self 1) c.if-read-eq1.true (c.in_ok-read.ensures.read sync_honest) c.if-byte-eq-OPEN.true in
    let follows = write_respelled 1 _ at 1 1 _ _ c.cell_at-gate.ensures.value refl c.write_at.ensures.crash in
    let stable = c.in_ok-sync.ensures.stable honest in
    over_quiet g.D.Disk.moment g.D.Disk.left_since g.D.Disk.may_leave g.met.D.Disk.only_now c.args.disk.now c.write_at.new.self c.sync-then-byte-eq-OPEN.new.self _
    (gate_written g.D.Disk.moment g.D.Disk.left_since g.D.Disk.may_leave g.met.D.Disk.only_now g.D.Disk.seen c.args.disk.now c.sync.new.self c.read_at.new.self at (g.met.D.Disk.seen_may_stay c.args.disk.now)
    c.sync.ensures.crash c.sync.ensures.time stable c.read_at.ensures.crash c.read_at.ensures.time c.write_at.new.self is_open follows c.write_at.ensures.time)
    (gate_torn g.D.Disk.moment g.D.Disk.left_since g.D.Disk.may_leave g.met.D.Disk.only_now g.D.Disk.seen c.args.disk.now c.sync.new.self c.read_at.new.self at (g.met.D.Disk.seen_may_stay c.args.disk.now)
    c.sync.ensures.crash c.sync.ensures.time stable c.read_at.ensures.crash c.read_at.ensures.time c.write_at.new.self is_open follows)
    c.sync-then-byte-eq-OPEN.ensures.crash c.sync-then-byte-eq-OPEN.ensures.time

pub returns-in_ok-sync-2-clause-any_moment : goal.returns-in_ok-sync-2-clause-any_moment
returns-in_ok-sync-2-clause-any_moment g c honest =
    let at = cell_at c.args.pair c.args.side in
    let sync_honest : IsTrue (g.D.Disk.is_honest c.sync.new.self) = subst IsTrue (sym c.sync.ensures.honest) honest in
    let seen = g.D.Disk.seen c.args.disk.now in
    let is_open : slice_index (seen 1) at ≡ 1 =
    ap (λ (k : ℕ). slice_index (seen 1) k) (sym c.cell_at-gate.ensures.value)
    ∙ ap (λ (l : List ℕ). slice_index l c.cell_at-gate.result) (sym (c.sync.ensures.same 1))
    ∙ byte_read c.in_ok-read.read c.cell_at-gate.result c.read_at.new.buf (g.D.Disk.seen c.sync.new.self 1) c.if-read-eq1.true (c.in_ok-read.ensures.read sync_honest) c.if-byte-eq-OPEN.true in
    let follows = write_respelled 1 _ at 1 1 _ _ c.cell_at-gate.ensures.value refl c.write_at.ensures.crash in
    let stable = c.in_ok-sync.ensures.stable honest in
    over_quiet g.D.Disk.moment g.D.Disk.left_since g.D.Disk.may_leave g.met.D.Disk.only_now c.args.disk.now c.write_at.new.self c.sync-then-byte-eq-OPEN.new.self _
    (gate_written g.D.Disk.moment g.D.Disk.left_since g.D.Disk.may_leave g.met.D.Disk.only_now g.D.Disk.seen c.args.disk.now c.sync.new.self c.read_at.new.self at (g.met.D.Disk.seen_may_stay c.args.disk.now)
    c.sync.ensures.crash c.sync.ensures.time stable c.read_at.ensures.crash c.read_at.ensures.time c.write_at.new.self is_open follows c.write_at.ensures.time)
    (gate_torn g.D.Disk.moment g.D.Disk.left_since g.D.Disk.may_leave g.met.D.Disk.only_now g.D.Disk.seen c.args.disk.now c.sync.new.self c.read_at.new.self at (g.met.D.Disk.seen_may_stay c.args.disk.now)
    c.sync.ensures.crash c.sync.ensures.time stable c.read_at.ensures.crash c.read_at.ensures.time c.write_at.new.self is_open follows)
    c.sync-then-byte-eq-OPEN.ensures.crash c.sync-then-byte-eq-OPEN.ensures.time
