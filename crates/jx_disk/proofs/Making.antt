-- What making a call comes to, from what its steps say.
use Rattle.std.proofs.Common.{◌≡◌, inl, inr, ⊎_elim, ℕ, ◌+◌, ◌-◌, ◌<◌, ◌≤◌, min, take, drop, Bool, true, false, nat_lt, cond, List, [], ◌∷◌, ◌++◌, length, Ok, Err, refl, sym, ◌∙◌, ap, arith, length-take, length-drop}
use Rattle.std.specs.Prelude.{◌⊎◌, ◌↔◌, IsTrue}
use Rattle.std.specs.Bool.{OnTrue, OnFalse}
use Rattle.std.proofs.lemmas.List.{ext_get_or, get_or-take, get_or-drop}
use Rattle.std.proofs.lemmas.Bool.{cases_lt}
use Rattle.std.proofs.lemmas.Bool.Decides.{nat_tests}
use Rattle.jx_io.specs.Stream.{next_count}
use Rattle.jx_disk.specs.Disk.{window}
use Rattle.jx_disk.specs.Calls.{DiskCall, Quiet, bytes_written, quiet_more}
use Rattle.jx_disk.specs.Told.{told, Shows}
use Rattle.jx_disk.specs.Memory.{calls_of, FailsNext, IsSpent, IsFull, Looked, Settled, Makes}
use Rattle.jx_disk.specs.declared.disk.DiskFault.{DiskFault}
use Rattle.jx_disk.specs.declared.memory.MemDisk.{MemDisk}
use Rattle.jx_disk.specs.declared.record.Record.{Record}
use Rattle.jx_disk.proofs.ToldLaws.{length-told, written-told}

-- a call that changes nothing is recorded where there is room for it
module _ (old new : Record) where
  abbrev pub calls_in : Record → List DiskCall
  calls_in r = told r.calls.items r.written.items

  with_room : length (calls_in old) < old.call_room → quiet_more (calls_in old) old.call_room ≡ calls_in old ++ Quiet ∷ []
  with_room fits =
      let e : nat_lt (length (calls_in old)) old.call_room ≡ true = grind (arith, nat_tests) in
      ap (λ (b : Bool). cond b (calls_in old ++ Quiet ∷ []) (calls_in old)) e

  without_room : old.call_room ≤ length (calls_in old) → quiet_more (calls_in old) old.call_room ≡ calls_in old
  without_room full =
      let e : nat_lt (length (calls_in old)) old.call_room ≡ false = grind (arith, nat_tests) in
      ap (λ (b : Bool). cond b (calls_in old ++ Quiet ∷ []) (calls_in old)) e

  pub noted_quiet : (noted : Bool) → IsTrue noted ↔ (length old.calls.items < old.call_room)
      → OnTrue noted (calls_in new ≡ calls_in old ++ Quiet ∷ []) → OnFalse noted (new ≡ old) → calls_in new ≡ quiet_more (calls_in old) old.call_room
  noted_quiet true room more kept =
      let same : length (calls_in old) ≡ length old.calls.items = length-told old.calls.items old.written.items in
      let fits = room.0 refl in
      more ∙ sym (with_room (omega (arith, same, fits)))
  noted_quiet false room more kept =
      let same : length (calls_in old) ≡ length old.calls.items = length-told old.calls.items old.written.items in
      let none : ¬ (length old.calls.items < old.call_room) = λ fits. cc (room.1 fits) in
      ap calls_in kept ∙ sym (without_room (omega (arith, same, none)))

-- room, by the lengths of the record's lists
module _ (disk : MemDisk) where
  calls_long : length (calls_of disk) ≡ length disk.record.calls.items
  calls_long = length-told disk.record.calls.items disk.record.written.items

  bytes_long : bytes_written (calls_of disk) ≡ length disk.record.written.items
  bytes_long = written-told disk.record.calls.items disk.record.written.items (omega (arith, disk.record.counted)) ∙ disk.record.counted

  pub is_spent : ¬ (length disk.record.calls.items < disk.record.call_room) → IsSpent disk
  is_spent none = omega (arith, calls_long, none)

  pub isnt_spent : length disk.record.calls.items < disk.record.call_room → ¬ IsSpent disk
  isnt_spent fits spent = omega (arith, calls_long, fits, spent)

  abbrev pub HasRoom : ℕ → Type 0
  HasRoom n = (length disk.record.calls.items < disk.record.call_room) × (length disk.record.written.items + n ≤ disk.record.byte_room)

  pub is_full : (n : ℕ) → ¬ HasRoom n → IsFull disk n
  is_full n none = elim (cases_lt (length disk.record.calls.items) disk.record.call_room) [
    | inl fits ↦
        let over : ¬ (length disk.record.written.items + n ≤ disk.record.byte_room) = λ le. none (fits, le) in
        inr (omega (arith, bytes_long, over))
    | inr spent ↦ inl (omega (arith, calls_long, spent))
  ]

  pub isnt_full : (n : ℕ) → HasRoom n → ¬ IsFull disk n
  isnt_full n fits full = ⊎_elim (isnt_spent fits.0) (λ over. omega (arith, bytes_long, fits.1, over)) full

-- The call was counted, and has failed: `mid` is the disk before its fault was counted.
module _ {T : Type 0} (call : DiskCall) (no_room : Type 0) (old mid : MemDisk) where
  pub has_failed : (fault : DiskFault) (new : MemDisk) → mid.opening ≡ old.opening → mid.record ≡ old.record → mid.failing ≡ old.failing
      → mid.made ≡ next_count old.made → Looked mid new → new.made ≡ mid.made → Settled mid new → FailsNext old ⊎ no_room
      → Makes {T = T} call no_room (Err fault) old new
  has_failed fault new same_opening same_record same_failing counts looked same_made settled why = record {
    fails = (λ failed. why, λ reason. refl);
    recorded = tt;
    looked = record {
      opening = looked.opening ∙ same_opening;
      calls = looked.calls ∙ ap (λ (r : Record). quiet_more (told r.calls.items r.written.items) r.call_room) same_record;
    };
    made = same_made ∙ counts;
    settled = record {
      failing = settled.failing ∙ same_failing;
      call_room = settled.call_room ∙ ap (λ (r : Record). r.call_room) same_record;
      byte_room = settled.byte_room ∙ ap (λ (r : Record). r.byte_room) same_record;
    };
  }

  pub has_succeeded : (value : T) → mid.opening ≡ old.opening → mid.failing ≡ old.failing → mid.made ≡ next_count old.made
      → calls_of mid ≡ calls_of old ++ call ∷ [] → mid.record.call_room ≡ old.record.call_room → mid.record.byte_room ≡ old.record.byte_room
      → ¬ FailsNext old → ¬ no_room → Makes {T = T} call no_room (Ok value) old mid
  has_succeeded value same_opening same_failing counts more call_room byte_room goes fits = record {
    fails = (λ failed. absurd cc, λ reason. absurd (⊎_elim goes fits reason));
    recorded = record { opening = same_opening; calls = more };
    looked = tt;
    made = counts;
    settled = record { failing = same_failing; call_room = call_room; byte_room = byte_room };
  }

-- what a read gets of what a buffer shows
pub shown_front : (at n : ℕ) (bytes buf : List ℕ) → n ≡ min (length buf) (length bytes - at) → Shows at bytes buf → take n buf ≡ window at (length buf) bytes
shown_front at n bytes buf is shows =
    ext_get_or 0 (take n buf) (window at (length buf) bytes) same_length
    (λ k inside.
    get_or-take n buf k 0 (omega (arith, length-take n buf)) ∙ shows k (omega (arith, length-take n buf)) (omega (arith, length-take n buf))
    ∙ sym (get_or-take (length buf) (drop at bytes) k 0 (omega (arith, length-take n buf)) ∙ get_or-drop at bytes k 0))
  where
    same_length : length (take n buf) ≡ length (window at (length buf) bytes)
    same_length = omega (arith, length-take n buf, length-take (length buf) (drop at bytes), length-drop at bytes)
