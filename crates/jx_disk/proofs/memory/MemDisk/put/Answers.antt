use Rattle.std.proofs.Common.{inr, [], ◌∷◌, ◌++◌, length, ◌∙◌, ap}
use Rattle.jx_disk.specs.Calls.{Written}
use Rattle.jx_disk.specs.Told.{told}
use Rattle.jx_disk.specs.Memory.{IsFull}
use Rattle.jx_disk.specs.declared.memory.MemDisk.{MemDisk}
use Rattle.jx_disk.specs.declared.record.Record.{Record}
use Rattle.jx_disk.proofs.Making.{is_full, isnt_full, has_failed, has_succeeded}
use Rattle.jx_disk.proofs.memory.MemDisk.put.Goals as goal

pub returns-then-not-note_write-clause-makes : goal.returns-then-not-note_write-clause-makes
returns-then-not-note_write-clause-makes c =
    let counts = c.begin.ensures.counts in
    let same_record = ap (λ (d : MemDisk). d.record) counts in
    let room = rw (same_record, c.if-not-note_write.true) at c.note_write.ensures.room in
    has_failed (Written c.args.file c.args.at c.args.piece.now) (IsFull c.args.self.now (length c.args.piece.now)) c.args.self.now _ c.fail-then-not-note_write.result c.fail-then-not-note_write.new.self
    (ap (λ (d : MemDisk). d.opening) counts) (c.if-not-note_write.ensures.full ∙ same_record) (ap (λ (d : MemDisk). d.failing) counts) (ap (λ (d : MemDisk). d.made) counts)
    c.fail-then-not-note_write.ensures.looked c.fail-then-not-note_write.ensures.made c.fail-then-not-note_write.ensures.settled
    (inr (is_full c.args.self.now (length c.args.piece.now) (λ fits. cc (room.1 fits))))

pub returns-clause-makes : goal.returns-clause-makes
returns-clause-makes c =
    let counts = c.begin.ensures.counts in
    let same_record = ap (λ (d : MemDisk). d.record) counts in
    let room = rw same_record at (c.note_write.ensures.room.0 c.if-not-note_write.false) in
    has_succeeded (Written c.args.file c.args.at c.args.piece.now) (IsFull c.args.self.now (length c.args.piece.now)) c.args.self.now _ tt
    (ap (λ (d : MemDisk). d.opening) counts) (ap (λ (d : MemDisk). d.failing) counts) (ap (λ (d : MemDisk). d.made) counts)
    (c.if-not-note_write.ensures.noted ∙ ap (λ (r : Record). told r.calls.items r.written.items ++ (Written c.args.file c.args.at c.args.piece.now) ∷ []) same_record)
    (c.note_write.ensures.kept.0 ∙ ap (λ (r : Record). r.call_room) same_record) (c.note_write.ensures.kept.1 ∙ ap (λ (r : Record). r.byte_room) same_record)
    (λ listed. cc (c.begin.ensures.fails.1 listed)) (isnt_full c.args.self.now (length c.args.piece.now) room)
