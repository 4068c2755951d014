use Rattle.std.proofs.Common.{ℕ, List, length, false, Option, IsTrue, refl, sym, subst}
use Rattle.std.proofs.lemmas.Str.{is_utf8-from_IsUtf8}
use Rattle.java_model.specs.StateFile.Cells.{Cell as Says, is_sound}
use Rattle.jx_disk.specs.Disk.{LeavesOnly}
use Rattle.index_states.specs.declared.cell.Cell.{Cell}
use Rattle.index_store.specs.Kept.{acked_as, acknowledging}
use Rattle.index_store.specs.Stores.{InSession, IsWhole, SavedAs, beginning}
use Rattle.index_store.specs.Table.{IsTable}
use Rattle.index_store.specs.declared.table.Table.{Table}
use Rattle.index_store.proofs.SaveLaws.{anew, others_stay, sound_image, refused, on_ok_both, on_err}
use Rattle.index_store.proofs.Sessions as sessions
use Rattle.index_store.proofs.store.Store.save.Goals as goal

pub returns-in-Ok-clause-any_moment : goal.returns-in-Ok-clause-any_moment
returns-in-Ok-clause-any_moment g c acks begun honest session =
    let place = c.in-Ok.ensures.chosen acks (subst (λ (t : List (Option Cell)). IsTable acks t) (sym c.deref.ensures.value) session.keeps.table) in
    let says : Says = record { rebuild = false; generation = c.in-Ok.place.generation; size = length c.args.image.now; name = c.args.container.now } in
    let sound : IsTrue (is_sound says) = sound_image c.in-Ok.place.generation (length c.args.image.now) c.args.container.now place.begun place.last c.if-image-gt-LONGEST_IMAGE.false (is_utf8-from_IsUtf8 c.args.container.now c.utf8.container) c.requires in
    let target = place.target says refl refl in
    let run = c.put.ensures.any_moment acks honest session.keeps sound target in
    subst (λ (n : ℕ). LeavesOnly g.D.Disk.moment g.D.Disk.left_since c.args.self.now.disk c.put.new.self.disk (IsWhole acks (beginning c.args.container.now (record { rebuild = false; generation = n; size = length c.args.image.now; image = c.args.image.now }) begun)))
    place.generation
    (sessions.any_moment g.D.Disk.moment g.D.Disk.left_since g.D.Disk.may_leave g.met.D.Disk.counts_now acks begun c.args.container.now (record { rebuild = false; generation = c.in-Ok.place.generation; size = length c.args.image.now; image = c.args.image.now }) place.generation c.args.self.now c.put.new.self session run)

pub returns-in-Ok-clause-saved : goal.returns-in-Ok-clause-saved
returns-in-Ok-clause-saved g c acks begun honest session =
    let place = c.in-Ok.ensures.chosen acks (subst (λ (t : List (Option Cell)). IsTable acks t) (sym c.deref.ensures.value) session.keeps.table) in
    let says : Says = record { rebuild = false; generation = c.in-Ok.place.generation; size = length c.args.image.now; name = c.args.container.now } in
    let sound : IsTrue (is_sound says) = sound_image c.in-Ok.place.generation (length c.args.image.now) c.args.container.now place.begun place.last c.if-image-gt-LONGEST_IMAGE.false (is_utf8-from_IsUtf8 c.args.container.now c.utf8.container) c.requires in
    let target = place.target says refl refl in
    let run = c.put.ensures.any_moment acks honest session.keeps sound target in
    on_ok_both c.put.result
    (λ keeps there.
    subst (λ (n : ℕ). SavedAs g.D.Disk.may_leave acks begun c.args.container.now (record { rebuild = false; generation = n; size = length c.args.image.now; image = c.args.image.now }) c.put.new.self) place.generation
    (sessions.saved g.D.Disk.moment g.D.Disk.left_since g.D.Disk.may_leave g.met.D.Disk.counts_now acks begun c.args.container.now (record { rebuild = false; generation = c.in-Ok.place.generation; size = length c.args.image.now; image = c.args.image.now }) place.generation c.args.self.now c.put.new.self session run
    (acknowledging acks c.in-Ok.place.pair (acked_as c.in-Ok.place.side says c.args.image.now)) keeps
    (anew acks c.in-Ok.place.pair c.in-Ok.place.side place.low says c.args.image.now target)
    (others_stay acks c.in-Ok.place.pair c.in-Ok.place.side place.low says c.args.image.now target) there))
    (c.put.ensures.saved acks honest session.keeps sound target) (c.put.ensures.there acks honest session.keeps sound target)

pub returns-in-Ok-clause-failed : goal.returns-in-Ok-clause-failed
returns-in-Ok-clause-failed g c acks begun honest session =
    let place = c.in-Ok.ensures.chosen acks (subst (λ (t : List (Option Cell)). IsTable acks t) (sym c.deref.ensures.value) session.keeps.table) in
    let says : Says = record { rebuild = false; generation = c.in-Ok.place.generation; size = length c.args.image.now; name = c.args.container.now } in
    let sound : IsTrue (is_sound says) = sound_image c.in-Ok.place.generation (length c.args.image.now) c.args.container.now place.begun place.last c.if-image-gt-LONGEST_IMAGE.false (is_utf8-from_IsUtf8 c.args.container.now c.utf8.container) c.requires in
    let target = place.target says refl refl in
    let run = c.put.ensures.any_moment acks honest session.keeps sound target in
    on_err c.put.result
    (λ same.
    subst (λ (n : ℕ). InSession g.D.Disk.may_leave acks (beginning c.args.container.now (record { rebuild = false; generation = n; size = length c.args.image.now; image = c.args.image.now }) begun) c.put.new.self) place.generation
    (sessions.failed g.D.Disk.moment g.D.Disk.left_since g.D.Disk.may_leave g.met.D.Disk.counts_now acks begun c.args.container.now (record { rebuild = false; generation = c.in-Ok.place.generation; size = length c.args.image.now; image = c.args.image.now }) place.generation c.args.self.now c.put.new.self session run (record {
      table = subst (λ (t : Table). IsTable acks t.entries.items) (sym same) session.keeps.table;
      fits = c.put.ensures.fits acks honest session.keeps sound target;
    })))
    c.put.ensures.kept

pub returns-in-Err-clause-answer : goal.returns-in-Err-clause-answer
returns-in-Err-clause-answer g c acks keeps =
    refused acks c.args.container.now (length c.args.image.now) c.in-Err.fault c.if-image-gt-LONGEST_IMAGE.false
    (c.in-Err.ensures.chosen acks (subst (λ (t : List (Option Cell)). IsTable acks t) (sym c.deref.ensures.value) keeps.table))

pub returns-in-Err-clause-any_moment : goal.returns-in-Err-clause-any_moment
returns-in-Err-clause-any_moment g c acks begun honest session =
    sessions.still g.D.Disk.moment g.D.Disk.left_since g.D.Disk.may_leave g.met.D.Disk.only_now acks begun _ c.args.self.now session

pub returns-in-Err-clause-failed : goal.returns-in-Err-clause-failed
returns-in-Err-clause-failed g c acks begun honest session = sessions.stays g.D.Disk.may_leave acks begun _ c.args.self.now c.args.self.now refl session

pub returns-then-image-gt-LONGEST_IMAGE-clause-any_moment : goal.returns-then-image-gt-LONGEST_IMAGE-clause-any_moment
returns-then-image-gt-LONGEST_IMAGE-clause-any_moment g c acks begun honest session =
    sessions.still g.D.Disk.moment g.D.Disk.left_since g.D.Disk.may_leave g.met.D.Disk.only_now acks begun _ c.args.self.now session

pub returns-then-image-gt-LONGEST_IMAGE-clause-failed : goal.returns-then-image-gt-LONGEST_IMAGE-clause-failed
returns-then-image-gt-LONGEST_IMAGE-clause-failed g c acks begun honest session =
    sessions.stays g.D.Disk.may_leave acks begun _ c.args.self.now c.args.self.now refl session
