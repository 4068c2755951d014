use Rattle.std.proofs.Common.{◌∙◌, sym, ap, drop}
use Rattle.disk_index.proofs.RowLoop.{rows_found, no_rows}
use Rattle.disk_index.proofs.part.DiskPart.rows.Goals as goal

pub returns-in-Ok : goal.returns-in-Ok
returns-in-Ok c =
    rows_found c.args.self.now c.self.inside.bytes.items c.self.inside.places.items c.self.inside.words c.self.inside.live.items c.as_slice.result.now c.from_place.result.now c.in-Ok.rows (sym c.self.view_is) c.self.invariant
    c.as_slice.ensures.value (c.from_place.ensures ∙ ap (drop c.self.inside.words) c.as_slice-2.ensures.value) c.in-Ok.ensures.0 c.in-Ok.ensures.1 c.in-Ok.ensures.2

pub returns-in-Err-Left : goal.returns-in-Err-Left
returns-in-Err-Left c =
    let failed = rw c.in-Err-Left.field-0-is at c.in-Err-Left.ensures in
    no_rows c.args.self.now c.self.inside.bytes.items c.self.inside.places.items c.self.inside.words c.self.inside.live.items c.as_slice.result.now c.in-Err-Left.field-0-0 c.from_place.result.now c.new.result (sym c.self.view_is) c.self.invariant
    c.as_slice.ensures.value (c.from_place.ensures ∙ ap (drop c.self.inside.words) c.as_slice-2.ensures.value) failed c.new.ensures
