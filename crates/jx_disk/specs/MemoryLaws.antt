-- The laws of the trait for a disk in memory.
use Rattle.std.specs.Prelude.{ℕ, ◌≤◌, List, [], ◌∷◌, length, None}
use Rattle.std.proofs.Common.{refl, sym, subst, arith}
use Rattle.std.proofs.lemmas.List.{take_all}
use Rattle.jx_disk.specs.Disk.{Image, SameFiles, TornWrite, TornCut, ChangesFile}
use Rattle.jx_disk.specs.Calls.{DiskCall, Quiet, Written, Shortened, Synced, image_after, images_after, MayFollow, MayLeave}
use Rattle.jx_disk.specs.Steps.{torn_whole, torn_cut, written_here, written_elsewhere, shortened_here, shortened_elsewhere}
use Rattle.jx_disk.specs.Memory.{since}

pub counts_since : (opening : Image) (calls : List DiskCall) (t : ℕ) (image : Image) → t ≤ length calls
    → MayLeave opening (SameFiles opening) calls image → since opening calls t image
counts_since opening calls t image le now = (
  length calls,
  le,
  omega arith,
  subst (λ (l : List DiskCall). MayLeave opening (SameFiles opening) l image) (sym (take_all (length calls) calls (omega arith))) now,
)

pub only_since : (opening : Image) (calls : List DiskCall) (image : Image)
    → since opening calls (length calls) image → MayLeave opening (SameFiles opening) calls image
only_since opening calls image left =
    subst (λ (l : List DiskCall). MayLeave opening (SameFiles opening) l image) (take_all left.0 calls left.1) left.3

-- a write changes its file alone, and so does a cut
pub writes_file : (file at : ℕ) (piece : List ℕ) (image : Image)
    → ChangesFile file (TornWrite at (length piece)) image (image_after None (Written file at piece) image)
writes_file file at piece image = record {
  changed = subst (TornWrite at (length piece) (image file)) (sym (written_here None file file at piece (image file) refl))
      (torn_whole 0 at piece (image file));
  others = λ other apart. written_elsewhere None other file at piece (image other) apart;
}

pub cuts_file : (file len : ℕ) (image : Image) → ChangesFile file (TornCut len) image (image_after None (Shortened file len) image)
cuts_file file len image = record {
  changed = subst (TornCut len (image file)) (sym (shortened_here None file file len (image file) refl)) (torn_cut len (image file));
  others = λ other apart. shortened_elsewhere None other file len (image other) apart;
}

-- what is left as it is read is left after one call more
stays_after : (call : DiskCall) (seen : Image) (P : Image → Type 0) → P seen → MayFollow call seen P (image_after None call seen)
stays_after Quiet seen P here = here
stays_after (Written file at piece) seen P here = (seen, here, writes_file file at piece seen)
stays_after (Shortened file len) seen P here = (seen, here, cuts_file file len seen)
stays_after Synced seen P here = λ file. refl

stays : (calls : List DiskCall) (seen : Image) (P : Image → Type 0) → P seen → MayLeave seen P calls (images_after None calls seen)
stays [] seen P here = here
stays (call ∷ calls) seen P here = stays calls (image_after None call seen) (MayFollow call seen P) (stays_after call seen P here)

pub seen_stays : (opening : Image) (calls : List DiskCall) → MayLeave opening (SameFiles opening) calls (images_after None calls opening)
seen_stays opening calls = stays calls opening (SameFiles opening) (λ file. refl)
