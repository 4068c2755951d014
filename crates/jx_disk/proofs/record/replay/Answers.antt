use Rattle.std.proofs.Common.{◌≡◌, ◌+◌, List, ◌∷◌, drop, get_or, ◌∙◌, ap, subst, arith}
use Rattle.std.proofs.lemmas.List.{drop_more}
use Rattle.jx_disk.specs.Calls.{bytes_after}
use Rattle.jx_disk.specs.Told.{told}
use Rattle.jx_disk.specs.declared.record.Call.{Call}
use Rattle.jx_disk.specs.declared.record.Call.TheVariants.{Read, Write, Cut, Sync}
use Rattle.jx_disk.proofs.Replaying.{Replayed, write_more, write_past, cut_more, cut_past, read_past, sync_past}
use Rattle.jx_disk.proofs.record.replay.Goals.{in-Write+then-file-other, in-Write+else-file-other, in-Cut+then-file-other-2, in-Cut+else-file-other-2, in-Read, in-Sync}
use Rattle.jx_disk.proofs.record.replay.Goals as goal

pub loop-call-preserved : goal.loop-call-preserved
loop-call-preserved c =
    let i = c.loop-call.call-index in
    let calls = c.args.calls.now in
    let end = bytes_after c.args.fill (told calls c.args.written.now) c.args.file in
    let So_far = λ (l : List Call). Replayed c.args.at c.args.fill c.args.file c.args.buf.now c.loop-call.buf c.args.len c.loop-call.now l c.loop-call.rest.now end in
    let next = drop_more calls i Read (omega arith) in
    let at_call = λ (call : Call) (is : get_or calls i Read ≡ call). subst So_far (next ∙ ap (λ (x : Call). x ∷ drop (i + 1) calls) is) c.loop-call.invariant in
    elim c.match-call.branch [
      | in-Write+then-file-other w ↦
          rw (w.buf-is, w.now-is, w.rest-is)
          (write_more _ _ _ _ _ _ _ _ _ _ w.in-Write.other w.in-Write.from w.in-Write.count _ _ w.split_at.result.0.now w.split_at.result.1.now
          (at_call (Write w.in-Write.other w.in-Write.from w.in-Write.count) w.in-Write.is) w.if-file-other.true
          w.split_at.ensures.front w.split_at.ensures.back w.overlay-now.ensures.same_length w.overlay-now.ensures.len w.overlay-now.ensures.shows)
      | in-Write+else-file-other w ↦
          rw (w.buf-is, w.now-is, w.rest-is)
          (write_past _ _ _ _ _ _ _ _ _ _ w.in-Write.other w.in-Write.from w.in-Write.count w.split_at.result.1.now
          (at_call (Write w.in-Write.other w.in-Write.from w.in-Write.count) w.in-Write.is) w.if-file-other.false w.split_at.ensures.back)
      | in-Cut+then-file-other-2 w ↦
          rw (w.buf-is, w.now-is, w.rest-is)
          (cut_more _ _ _ _ _ _ _ _ _ _ w.in-Cut.other w.in-Cut.most _ (at_call (Cut w.in-Cut.other w.in-Cut.most) w.in-Cut.is) w.if-file-other-2.true w.min-now.ensures)
      | in-Cut+else-file-other-2 w ↦
          rw (w.buf-is, w.now-is, w.rest-is)
          (cut_past _ _ _ _ _ _ _ _ _ _ w.in-Cut.other w.in-Cut.most (at_call (Cut w.in-Cut.other w.in-Cut.most) w.in-Cut.is) w.if-file-other-2.false)
      | in-Read w ↦ rw (w.buf-is, w.now-is, w.rest-is) (read_past _ _ _ _ _ _ _ _ _ _ (at_call Read w.in-Read.is))
      | in-Sync w ↦ rw (w.buf-is, w.now-is, w.rest-is) (sync_past _ _ _ _ _ _ _ _ _ _ (at_call Sync w.in-Sync.is))
    ]
