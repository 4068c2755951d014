use Rattle.std.proofs.Common.{inr, [], ◌∷◌, ◌++◌, ◌∙◌, ap}
use Rattle.jx_disk.specs.Told.{told, call_told}
use Rattle.jx_disk.specs.Memory.{IsSpent}
use Rattle.jx_disk.specs.declared.memory.MemDisk.{MemDisk}
use Rattle.jx_disk.specs.declared.record.Record.{Record}
use Rattle.jx_disk.proofs.Making.{is_spent, isnt_spent, has_failed, has_succeeded}
use Rattle.jx_disk.proofs.memory.MemDisk.change.Goals as goal

pub returns-then-not-note-clause-makes : goal.returns-then-not-note-clause-makes
returns-then-not-note-clause-makes c =
    let counts = c.begin.ensures.counts in
    let same_record = ap (λ (d : MemDisk). d.record) counts in
    let room = rw (same_record, c.if-not-note.true) at c.note.ensures.room in
    has_failed (call_told c.args.call []) (IsSpent c.args.self.now) c.args.self.now _ c.fail-then-not-note.result c.fail-then-not-note.new.self
    (ap (λ (d : MemDisk). d.opening) counts) (c.if-not-note.ensures.full ∙ same_record) (ap (λ (d : MemDisk). d.failing) counts) (ap (λ (d : MemDisk). d.made) counts)
    c.fail-then-not-note.ensures.looked c.fail-then-not-note.ensures.made c.fail-then-not-note.ensures.settled
    (inr (is_spent c.args.self.now (λ fits. cc (room.1 fits))))

pub returns-clause-makes : goal.returns-clause-makes
returns-clause-makes c =
    let counts = c.begin.ensures.counts in
    let same_record = ap (λ (d : MemDisk). d.record) counts in
    let room = rw same_record at (c.note.ensures.room.0 c.if-not-note.false) in
    has_succeeded (call_told c.args.call []) (IsSpent c.args.self.now) c.args.self.now _ tt
    (ap (λ (d : MemDisk). d.opening) counts) (ap (λ (d : MemDisk). d.failing) counts) (ap (λ (d : MemDisk). d.made) counts)
    (c.if-not-note.ensures.noted ∙ ap (λ (r : Record). told r.calls.items r.written.items ++ (call_told c.args.call []) ∷ []) same_record)
    (c.note.ensures.kept.0 ∙ ap (λ (r : Record). r.call_room) same_record) (c.note.ensures.kept.1 ∙ ap (λ (r : Record). r.byte_room) same_record)
    (λ listed. cc (c.begin.ensures.fails.1 listed)) (isnt_spent c.args.self.now room)
