-- Runs of calls, each with what a crash since its start may leave.
use Rattle.std.proofs.Common.{◌≡◌, inl, inr, ℕ, List, take, drop, get_or, slice_index, add-zero, sym, ap, ◌∙◌, refl, subst, arith}
use Rattle.std.proofs.lemmas.List.{get_or-take, get_or-drop}
use Rattle.jx_disk.specs.Disk.{Image, SameFiles, window, TornWrite, ChangesFile, Follows, Within, Elapses, LeavesOnly}
use Rattle.jx_disk.specs.Steps.{torn_nothing}
use Rattle.jx_disk.proofs.Moments.{over_call, and_then}
use Rattle.index_states.specs.Parts.{After, ClosesGate, ChangesByte, ChangesOnly}

-- nothing has changed
pub stays_within : (outcomes : Image → Type 0) (step : Image → Image → Type 0) → ((image : Image) → step image image) → (image : Image) → outcomes image → After outcomes step image
stays_within outcomes step still image left = (image, left, still image)

pub still_torn : (file at n : ℕ) (image : Image) → ChangesFile file (TornWrite at n) image image
still_torn file at n image = record { changed = torn_nothing at n (image file); others = λ other apart. refl }

module _ {D : Type 0} (moment : D → ℕ) (left_since : D → ℕ → Image → Type 0) (may_leave : D → Image → Type 0)
    (only_now : (disk : D) (image : Image) → left_since disk (moment disk) image → may_leave disk image) where
  -- a call after which a crash leaves an earlier outcome after a step that may have done nothing
  pub over_step : (old new : D) (step : Image → Image → Type 0) → ((image : Image) → step image image)
      → Follows step (may_leave old) (may_leave new) → Elapses (moment old) (moment new) (left_since old) (left_since new) (may_leave new) → LeavesOnly moment left_since old new (After (may_leave old) step)
  over_step old new step still follows time =
      over_call moment left_since old new (may_leave old) (may_leave new) (After (may_leave old) step) (only_now old) time (stays_within (may_leave old) step still) follows

  -- a call that changes nothing, after a call whose outcomes have P
  pub over_quiet : (old mid new : D) (P : Image → Type 0) → LeavesOnly moment left_since old mid P
      → ((image : Image) → may_leave mid image → P image)
      → Within (may_leave mid) (may_leave new) → Elapses (moment mid) (moment new) (left_since mid) (left_since new) (may_leave new) → LeavesOnly moment left_since old new P
  over_quiet old mid new P first here within time =
      and_then moment left_since old mid new P P first
      (over_call moment left_since mid new (may_leave mid) (may_leave new) P (only_now mid) time here (λ image left. here image (within image left))) (λ image p. p)

  -- a second step over a first one
  pub then_step : (old mid new : D) (first second step : Image → Image → Type 0)
      → LeavesOnly moment left_since old mid (After (may_leave old) step) → LeavesOnly moment left_since mid new (After (may_leave mid) second)
      → Follows first (may_leave old) (may_leave mid)
      → ((a b c : Image) → first a b → second b c → step a c) → LeavesOnly moment left_since old new (After (may_leave old) step)
  then_step old mid new first second step before after follows joined =
      and_then moment left_since old mid new (After (may_leave old) step) (After (may_leave mid) second) before after
      (λ image late. let was = follows late.0 late.1 in (was.0, was.1, joined was.0 late.0 image was.2 late.2))

  -- A gate is closed after a sync and a read: at first nothing changes, and then at most an open gate.
  module _ (seen : D → Image) (old synced read : D) (at : ℕ) (stays : may_leave old (seen old))
      (sync_crash : Within (may_leave old) (may_leave synced)) (sync_time : Elapses (moment old) (moment synced) (left_since old) (left_since synced) (may_leave synced))
      (stable : (image : Image) → may_leave synced image → SameFiles (seen old) image)
      (read_crash : Within (may_leave synced) (may_leave read)) (read_time : Elapses (moment synced) (moment read) (left_since synced) (left_since read) (may_leave read)) where
    still : (image : Image) → may_leave old image → After (may_leave old) (ClosesGate at) image
    still image left = (image, left, inl (λ file. refl))

    looked : LeavesOnly moment left_since old read (After (may_leave old) (ClosesGate at))
    looked =
        over_quiet old synced read (After (may_leave old) (ClosesGate at))
        (over_call moment left_since old synced (may_leave old) (may_leave synced) (After (may_leave old) (ClosesGate at)) (only_now old) sync_time still (λ image left. still image (sync_crash image left)))
        (λ image left. still image (sync_crash image left)) read_crash read_time

    pub gate_torn : (written : D) → slice_index (seen old 1) at ≡ 1 → Follows (ChangesByte at) (may_leave read) (may_leave written)
        → (image : Image) → may_leave written image → After (may_leave old) (ClosesGate at) image
    gate_torn written is_open follows image left =
        let was = follows image left in
        let same : was.0 ≡ seen old = λ i. λ file. stable was.0 (read_crash was.0 was.1) file i in
        (seen old, stays, inr (is_open, subst (λ (before : Image). ChangesByte at before image) same was.2))

    pub gate_written : (written : D) → slice_index (seen old 1) at ≡ 1 → Follows (ChangesByte at) (may_leave read) (may_leave written)
        → Elapses (moment read) (moment written) (left_since read) (left_since written) (may_leave written) → LeavesOnly moment left_since old written (After (may_leave old) (ClosesGate at))
    gate_written written is_open follows time =
        and_then moment left_since old read written (After (may_leave old) (ClosesGate at)) (After (may_leave old) (ClosesGate at)) looked
        (over_call moment left_since read written (may_leave read) (may_leave written) (After (may_leave old) (ClosesGate at)) (only_now read) time
        (λ image left. still image (sync_crash image (read_crash image left))) (gate_torn written is_open follows))
        (λ image late. late)

-- a step on one file leaves the others
pub follows_only : (file file' : ℕ) (step : List ℕ → List ℕ → Type 0) (old new : Image → Type 0) → file ≡ file' → Follows (ChangesFile file step) old new → Follows (ChangesOnly file') old new
follows_only file file' step old new same follows image left =
    let was = follows image left in
    (was.0, was.1, subst (λ (f : ℕ). ChangesOnly f was.0 image) same was.2.others)

pub only_joined : (file : ℕ) (a b c : Image) → ChangesOnly file a b → ChangesOnly file b c → ChangesOnly file a c
only_joined file a b c first second other apart = second other apart ∙ first other apart

-- a byte that a read has given
pub byte_read : (n at : ℕ) (buf bytes : List ℕ) → n ≡ 1 → take n buf ≡ window at 1 bytes → slice_index buf 0 ≡ 1 → slice_index bytes at ≡ 1
byte_read n at buf bytes is given one =
    let there : take 1 buf ≡ take 1 (drop at bytes) = ap (λ (k : ℕ). take k buf) (sym is) ∙ given in
    let a : get_or (take 1 buf) 0 0 ≡ get_or buf 0 0 = get_or-take 1 buf 0 0 (omega arith) in
    let b : get_or (take 1 (drop at bytes)) 0 0 ≡ get_or (drop at bytes) 0 0 = get_or-take 1 (drop at bytes) 0 0 (omega arith) in
    sym (ap (λ (k : ℕ). get_or bytes k 0) (add-zero at)) ∙ sym (get_or-drop at bytes 0 0) ∙ sym b ∙ sym (ap (λ (l : List ℕ). get_or l 0 0) there) ∙ a ∙ one

-- the same write, its place and length spelled otherwise
pub write_respelled : (file at at' n n' : ℕ) (old new : Image → Type 0) → at ≡ at' → n ≡ n' → Follows (ChangesFile file (TornWrite at n)) old new → Follows (ChangesFile file (TornWrite at' n')) old new
write_respelled file at at' n n' old new same_place same_length follows =
    subst (λ (m : ℕ). Follows (ChangesFile file (TornWrite at' m)) old new) same_length
    (subst (λ (place : ℕ). Follows (ChangesFile file (TornWrite place n)) old new) same_place follows)
