use Rattle.std.proofs.Common.{arith, drop, get_or}
use Rattle.java_model.proofs.IndexFile.Fields.{IsBytes-drop}
use Rattle.disk_index.specs.Reads.{entry_of}
use Rattle.disk_index.proofs.EntryLoop.{path_is_text, here_at, shown_at, none_at}
use Rattle.disk_index.proofs.entries.entry_in.Goals as goal

pub returns-in-Ok-clause-utf8 : goal.returns-in-Ok-clause-utf8
returns-in-Ok-clause-utf8 c =
    let read = rw c.from_place.ensures at c.in-Ok.ensures.value in
    path_is_text (drop (get_or c.args.places.now c.args.at 0) c.args.file.now) (entry_of c.in-Ok.path.now c.in-Ok.stamp) c.in-Ok.field-0-2.now
    (IsBytes-drop (get_or c.args.places.now c.args.at 0) c.args.file.now (λ i. omega (arith, c.type_inv.file i))) read

pub returns-in-Ok-clause-value : goal.returns-in-Ok-clause-value
returns-in-Ok-clause-value c =
    let read = rw c.from_place.ensures at c.in-Ok.ensures.value in
    λ entries s. shown_at c.args.file.now c.args.places.now entries c.args.at (entry_of c.in-Ok.path.now c.in-Ok.stamp) s c.if-at-places.false
    (here_at (drop (get_or c.args.places.now c.args.at 0) c.args.file.now) (entry_of c.in-Ok.path.now c.in-Ok.stamp) c.in-Ok.field-0-2.now read)

pub returns-in-Err-clause-value : goal.returns-in-Err-clause-value
returns-in-Err-clause-value c =
    let read = rw c.from_place.ensures at c.in-Err.ensures.value in
    λ entries s. none_at c.in-Err.field-0 c.args.file.now c.args.places.now entries c.args.at s c.if-at-places.false c.in-Err.ensures.told read
