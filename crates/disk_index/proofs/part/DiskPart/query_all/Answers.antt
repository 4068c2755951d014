use Rattle.std.proofs.Common.{◌∙◌, sym, ap, length, drop}
use Rattle.disk_index.proofs.QueryRows.{answered, answered_none}
use Rattle.disk_index.proofs.part.DiskPart.query_all.Goals as goal

pub returns-in-Ok : goal.returns-in-Ok
returns-in-Ok g c =
    answered c.flagged.result (g.P.Admit.admitted c.args.pattern.now) c.args.self.now c.self.inside.bytes.items c.self.inside.places.items c.self.inside.words c.self.inside.live.items c.as_slice-in-Ok.result.now
    c.in_ok-found.found.items c.note_words.new.found.items c.as_slice-in-Ok-2.result.now c.entries-range.result (length c.as_slice.result.now) c.from_place.result.now (sym c.self.view_is) c.self.invariant
    c.entries-range.ensures (c.from_place.ensures ∙ ap (drop c.self.inside.words) c.as_slice-2.ensures.value) c.in_ok-found.ensures c.as_slice-in-Ok.ensures.value c.as_slice-in-Ok-2.ensures.value
    c.in-Ok.ensures.0 c.in-Ok.ensures.1 c.in-Ok.ensures.2 c.flagged.ensures

pub returns : goal.returns
returns g c =
    let failed = rw c.in-Err-Left.field-0-is at c.in-Err-Left.ensures in
    answered_none (g.P.Admit.admitted c.args.pattern.now) c.args.self.now c.self.inside.bytes.items c.self.inside.places.items c.self.inside.words c.self.inside.live.items c.entries-range.result c.in-Err-Left.field-0-0
    c.from_place.result.now c.new.result.items (sym c.self.view_is) c.self.invariant c.entries-range.ensures (c.from_place.ensures ∙ ap (drop c.self.inside.words) c.as_slice-2.ensures.value) c.new.ensures.items failed
