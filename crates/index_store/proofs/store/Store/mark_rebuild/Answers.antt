use Rattle.std.proofs.Common.{ℕ, List, [], true, Option, IsTrue, refl, sym, subst}
use Rattle.std.proofs.lemmas.Str.{is_utf8-from_IsUtf8}
use Rattle.java_model.specs.StateFile.Cells.{Cell as Says, is_sound}
use Rattle.jx_disk.specs.Disk.{LeavesOnly}
use Rattle.index_states.specs.declared.cell.Cell.{Cell}
use Rattle.index_store.specs.Kept.{acked_as, acknowledging}
use Rattle.index_store.specs.Stores.{InSession, IsWhole, SavedAs, beginning}
use Rattle.index_store.specs.Table.{IsTable}
use Rattle.index_store.specs.declared.table.Table.{Table}
use Rattle.index_store.proofs.SaveLaws.{anew, others_stay, sound_mark, refused_mark, on_ok_both, on_err}
use Rattle.index_store.proofs.Sessions as sessions
use Rattle.index_store.proofs.store.Store.mark_rebuild.Goals as goal

pub returns-in-Ok-clause-any_moment : goal.returns-in-Ok-clause-any_moment
returns-in-Ok-clause-any_moment g c acks begun honest session =
    let place = c.in-Ok.ensures.chosen acks (subst (λ (t : List (Option Cell)). IsTable acks t) (sym c.deref.ensures.value) session.keeps.table) in
    let says : Says = record { rebuild = true; generation = c.in-Ok.place.generation; size = 0; name = c.args.container.now } in
    let sound : IsTrue (is_sound says) = sound_mark c.in-Ok.place.generation c.args.container.now place.begun place.last (is_utf8-from_IsUtf8 c.args.container.now c.utf8.container) c.requires in
    let target = place.target says refl refl in
    let run = c.put_mark.ensures.any_moment acks honest session.keeps sound target in
    subst (λ (n : ℕ). LeavesOnly g.D.Disk.moment g.D.Disk.left_since c.args.self.now.disk c.put_mark.new.self.disk (IsWhole acks (beginning c.args.container.now (record { rebuild = true; generation = n; size = 0; image = [] }) begun)))
    place.generation
    (sessions.any_moment g.D.Disk.moment g.D.Disk.left_since g.D.Disk.may_leave g.met.D.Disk.counts_now acks begun c.args.container.now (record { rebuild = true; generation = c.in-Ok.place.generation; size = 0; image = [] }) place.generation c.args.self.now c.put_mark.new.self session run)

pub returns-in-Ok-clause-marked : goal.returns-in-Ok-clause-marked
returns-in-Ok-clause-marked g c acks begun honest session =
    let place = c.in-Ok.ensures.chosen acks (subst (λ (t : List (Option Cell)). IsTable acks t) (sym c.deref.ensures.value) session.keeps.table) in
    let says : Says = record { rebuild = true; generation = c.in-Ok.place.generation; size = 0; name = c.args.container.now } in
    let sound : IsTrue (is_sound says) = sound_mark c.in-Ok.place.generation c.args.container.now place.begun place.last (is_utf8-from_IsUtf8 c.args.container.now c.utf8.container) c.requires in
    let target = place.target says refl refl in
    let run = c.put_mark.ensures.any_moment acks honest session.keeps sound target in
    on_ok_both c.put_mark.result
    (λ keeps there.
    subst (λ (n : ℕ). SavedAs g.D.Disk.may_leave acks begun c.args.container.now (record { rebuild = true; generation = n; size = 0; image = [] }) c.put_mark.new.self) place.generation
    (sessions.saved g.D.Disk.moment g.D.Disk.left_since g.D.Disk.may_leave g.met.D.Disk.counts_now acks begun c.args.container.now (record { rebuild = true; generation = c.in-Ok.place.generation; size = 0; image = [] }) place.generation c.args.self.now c.put_mark.new.self session run
    (acknowledging acks c.in-Ok.place.pair (acked_as c.in-Ok.place.side says [])) keeps
    (anew acks c.in-Ok.place.pair c.in-Ok.place.side place.low says [] target)
    (others_stay acks c.in-Ok.place.pair c.in-Ok.place.side place.low says [] target) there))
    (c.put_mark.ensures.saved acks honest session.keeps sound target) (c.put_mark.ensures.there acks honest session.keeps sound target)

pub returns-in-Ok-clause-failed : goal.returns-in-Ok-clause-failed
returns-in-Ok-clause-failed g c acks begun honest session =
    let place = c.in-Ok.ensures.chosen acks (subst (λ (t : List (Option Cell)). IsTable acks t) (sym c.deref.ensures.value) session.keeps.table) in
    let says : Says = record { rebuild = true; generation = c.in-Ok.place.generation; size = 0; name = c.args.container.now } in
    let sound : IsTrue (is_sound says) = sound_mark c.in-Ok.place.generation c.args.container.now place.begun place.last (is_utf8-from_IsUtf8 c.args.container.now c.utf8.container) c.requires in
    let target = place.target says refl refl in
    let run = c.put_mark.ensures.any_moment acks honest session.keeps sound target in
    on_err c.put_mark.result
    (λ same.
    subst (λ (n : ℕ). InSession g.D.Disk.may_leave acks (beginning c.args.container.now (record { rebuild = true; generation = n; size = 0; image = [] }) begun) c.put_mark.new.self) place.generation
    (sessions.failed g.D.Disk.moment g.D.Disk.left_since g.D.Disk.may_leave g.met.D.Disk.counts_now acks begun c.args.container.now (record { rebuild = true; generation = c.in-Ok.place.generation; size = 0; image = [] }) place.generation c.args.self.now c.put_mark.new.self session run (record {
      table = subst (λ (t : Table). IsTable acks t.entries.items) (sym same) session.keeps.table;
      fits = c.put_mark.ensures.fits acks honest session.keeps sound target;
    })))
    c.put_mark.ensures.kept

pub returns-in-Err-clause-answer : goal.returns-in-Err-clause-answer
returns-in-Err-clause-answer g c acks keeps =
    refused_mark acks c.args.container.now c.in-Err.fault
    (c.in-Err.ensures.chosen acks (subst (λ (t : List (Option Cell)). IsTable acks t) (sym c.deref.ensures.value) keeps.table))

pub returns-in-Err-clause-any_moment : goal.returns-in-Err-clause-any_moment
returns-in-Err-clause-any_moment g c acks begun honest session =
    sessions.still g.D.Disk.moment g.D.Disk.left_since g.D.Disk.may_leave g.met.D.Disk.only_now acks begun _ c.args.self.now session

pub returns-in-Err-clause-failed : goal.returns-in-Err-clause-failed
returns-in-Err-clause-failed g c acks begun honest session = sessions.stays g.D.Disk.may_leave acks begun _ c.args.self.now c.args.self.now refl session
