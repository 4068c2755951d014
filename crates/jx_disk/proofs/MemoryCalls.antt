-- What one call more does to a disk in memory, as the trait tells it.
use Rattle.std.proofs.Common.{◌≡◌, inl, inr, ℕ, ◌+◌, Bool, true, false, cond, nat_lt, List, [], ◌∷◌, ◌++◌, length, Option, None, refl, sym, ◌∙◌, ap, subst, arith, length-append}
use Rattle.std.proofs.lemmas.List.{take-append-le, take_all}
use Rattle.std.proofs.lemmas.Bool.{cases_lt}
use Rattle.jx_disk.specs.Disk.{Image, SameFiles, TornWrite, TornCut, ChangesFile, Follows, Within, Elapses}
use Rattle.jx_disk.specs.Calls.{DiskCall, Quiet, Synced, file_after, image_after, bytes_after, images_after, MayFollow, MayLeave}
use Rattle.jx_disk.specs.Told.{bytes_in}
use Rattle.jx_disk.specs.Memory.{opening_of, calls_of, seen_of, may_leave_of, left_since_of, since, Passes, Recorded, Looked}
use Rattle.jx_disk.specs.MemoryLaws.{seen_stays}
use Rattle.jx_disk.specs.Steps.{torn_nothing}
use Rattle.jx_disk.specs.declared.memory.MemDisk.{MemDisk}

pub bytes_after-push : (fill : Option ℕ) (calls : List DiskCall) (call : DiskCall) (file : ℕ) (bytes : List ℕ)
    → bytes_after fill (calls ++ call ∷ []) file bytes ≡ file_after fill call file (bytes_after fill calls file bytes)
bytes_after-push fill [] call file bytes = refl
bytes_after-push fill (first ∷ calls) call file bytes = bytes_after-push fill calls call file (file_after fill first file bytes)

-- what a crash may leave after one call more follows what it might leave before
leaves_more : (calls : List DiskCall) (call : DiskCall) (seen : Image) (P : Image → Type 0) (image : Image)
    → MayLeave seen P (calls ++ call ∷ []) image → MayFollow call (images_after None calls seen) (MayLeave seen P calls) image
leaves_more [] call seen P image left = left
leaves_more (first ∷ calls) call seen P image left = leaves_more calls call (image_after None first seen) (MayFollow first seen P) image left

-- the time goes on by one call
passes : (opening : Image) (calls : List DiskCall) (call : DiskCall)
    → Elapses (length calls) (length (calls ++ call ∷ [])) (since opening calls) (since opening (calls ++ call ∷ [])) (MayLeave opening (SameFiles opening) (calls ++ call ∷ []))
passes opening calls call = record {
  later = omega (arith, longer);
  soon = omega (arith, longer);
  nothing_else = λ t image le left. elim (cases_lt (length calls) left.0) [
    | inl past ↦ inr (subst (λ (l : List DiskCall). MayLeave opening (SameFiles opening) l image) (take_all left.0 (calls ++ call ∷ []) (omega (arith, longer, left.2))) left.3)
    | inr inside ↦ inl ((left.0, left.1, inside, subst (λ (l : List DiskCall). MayLeave opening (SameFiles opening) l image) (take-append-le left.0 calls (call ∷ []) inside) left.3))
  ];
  keeps = λ t image le left. (left.0, left.1, omega (arith, longer, left.2), subst (λ (l : List DiskCall). MayLeave opening (SameFiles opening) l image) (sym (take-append-le left.0 calls (call ∷ []) left.2)) left.3);
}
  where
    longer : length (calls ++ call ∷ []) ≡ length calls + 1
    longer = length-append calls (call ∷ [])

stands : (opening : Image) (calls : List DiskCall) → Elapses (length calls) (length calls) (since opening calls) (since opening calls) (MayLeave opening (SameFiles opening) calls)
stands opening calls = record { later = omega arith; soon = omega arith; nothing_else = λ t image le left. inl left; keeps = λ t image le left. left }

module _ (call : DiskCall) (old new : MemDisk) (more : Recorded call old new) where
  same_opening : opening_of new ≡ opening_of old
  same_opening = ap (λ files. bytes_in files.items) more.opening

  pub seen_more : (file : ℕ) → seen_of new file ≡ file_after None call file (seen_of old file)
  seen_more file =
      ap (λ (opening : Image). bytes_after None (calls_of new) file (opening file)) same_opening
      ∙ ap (λ (l : List DiskCall). bytes_after None l file (opening_of old file)) more.calls
      ∙ bytes_after-push None (calls_of old) call file (opening_of old file)

  pub may_leave_more : (image : Image) → may_leave_of new image → MayFollow call (seen_of old) (may_leave_of old) image
  may_leave_more image left =
      let moved : MayLeave (opening_of old) (SameFiles (opening_of old)) (calls_of new) image =
      subst (λ (opening : Image). MayLeave opening (SameFiles opening) (calls_of new) image) same_opening left in
      leaves_more (calls_of old) call (opening_of old) (SameFiles (opening_of old)) image
      (subst (λ (l : List DiskCall). MayLeave (opening_of old) (SameFiles (opening_of old)) l image) more.calls moved)

  pub time_more : Passes old new
  time_more =
      let after_call = λ (opening : Image) (l : List DiskCall). Elapses (length (calls_of old)) (length l) (left_since_of old) (since opening l) (MayLeave opening (SameFiles opening) l) in
      subst (λ (opening : Image). after_call opening (calls_of new)) (sym same_opening)
      (subst (λ (l : List DiskCall). after_call (opening_of old) l) (sym more.calls) (passes (opening_of old) (calls_of old) call))

pub same_quiet : (old new : MemDisk) → Recorded Quiet old new → SameFiles (seen_of old) (seen_of new)
same_quiet old new more file = seen_more Quiet old new more file

pub within_quiet : (old new : MemDisk) → Recorded Quiet old new → Within (may_leave_of old) (may_leave_of new)
within_quiet old new more image left = may_leave_more Quiet old new more image left

-- a call that changes nothing
pub record IsQuiet (old new : MemDisk) : Type 0 where
  pub same : SameFiles (seen_of old) (seen_of new)
  pub crash : Within (may_leave_of old) (may_leave_of new)
  pub time : Passes old new

module _ (old new : MemDisk) where
  unchanged : new.opening ≡ old.opening → calls_of new ≡ calls_of old → IsQuiet old new
  unchanged is_opening is_calls =
      let same_opening : opening_of new ≡ opening_of old = ap (λ files. bytes_in files.items) is_opening in
      record {
        same = λ file. ap (λ (opening : Image). bytes_after None (calls_of new) file (opening file)) same_opening ∙ ap (λ (l : List DiskCall). bytes_after None l file (opening_of old file)) is_calls;
        crash = λ image left.
            subst (λ (l : List DiskCall). MayLeave (opening_of old) (SameFiles (opening_of old)) l image) is_calls
            (subst (λ (opening : Image). MayLeave opening (SameFiles opening) (calls_of new) image) same_opening left);
        time =
            let after_call = λ (opening : Image) (l : List DiskCall). Elapses (length (calls_of old)) (length l) (left_since_of old) (since opening l) (MayLeave opening (SameFiles opening) l) in
            subst (λ (opening : Image). after_call opening (calls_of new)) (sym same_opening)
            (subst (λ (l : List DiskCall). after_call (opening_of old) l) (sym is_calls) (stands (opening_of old) (calls_of old)));
      }

  pub recorded_quiet : Recorded Quiet old new → IsQuiet old new
  recorded_quiet more = record { same = same_quiet old new more; crash = within_quiet old new more; time = time_more Quiet old new more }

  pub is_quiet : Looked old new → IsQuiet old new
  is_quiet looked = by_room (nat_lt (length (calls_of old)) old.record.call_room) looked.calls
    where
      by_room : (room : Bool) → calls_of new ≡ cond room (calls_of old ++ Quiet ∷ []) (calls_of old) → IsQuiet old new
      by_room true is_calls = recorded_quiet (record { opening = looked.opening; calls = is_calls })
      by_room false is_calls = unchanged looked.opening is_calls

-- nothing changed is among what a torn write and a torn cut may have changed
pub torn_write_of_nothing : (file at n : ℕ) (old new : Image) → SameFiles old new → ChangesFile file (TornWrite at n) old new
torn_write_of_nothing file at n old new same = record {
  changed = subst (TornWrite at n (old file)) (sym (same file)) (torn_nothing at n (old file));
  others = λ other apart. same other;
}

pub torn_cut_of_nothing : (file n : ℕ) (old new : Image) → SameFiles old new → ChangesFile file (TornCut n) old new
torn_cut_of_nothing file n old new same = record {
  changed = subst (TornCut n (old file)) (sym (same file)) (record { spared = refl; no_longer = omega arith });
  others = λ other apart. same other;
}

pub follows_write : (file at n : ℕ) (old new : Image → Type 0) → Within old new → Follows (ChangesFile file (TornWrite at n)) old new
follows_write file at n old new within image left = (image, within image left, torn_write_of_nothing file at n image image (λ f. refl))

pub follows_cut : (file n : ℕ) (old new : Image → Type 0) → Within old new → Follows (ChangesFile file (TornCut n)) old new
follows_cut file n old new within image left = (image, within image left, torn_cut_of_nothing file n image image (λ f. refl))

-- one file changes as its call says
pub changes_as : (file : ℕ) (step : List ℕ → List ℕ → Type 0) (old mid new : Image) → ((f : ℕ) → new f ≡ mid f) → ChangesFile file step old mid → ChangesFile file step old new
changes_as file step old mid new is change = record {
  changed = subst (step (old file)) (sym (is file)) change.changed;
  others = λ other apart. is other ∙ change.others other apart;
}

-- a disk that a crash leaves as it is read might be left so before
pub within_synced : (old new : MemDisk) → Recorded Synced old new → Within (may_leave_of old) (may_leave_of new)
within_synced old new more image left =
    let same : SameFiles (seen_of old) image = may_leave_more Synced old new more image left in
    let is : image ≡ seen_of old = λ i. λ file. same file i in
    subst (may_leave_of old) (sym is) (seen_stays (opening_of old) (calls_of old))
