-- What a crash leaves of each file is one of the images that it may leave.
use Rattle.std.proofs.Common.{◌≡◌, inl, inr, ℕ, zero, suc, ◌+◌, ◌<◌, Bool, true, false, ◌||◌, cond, List, [], ◌∷◌, ◌++◌, length, get_or, take, drop, Option, None, refl, sym, ◌∙◌, ap, subst, arith}
use Rattle.std.specs.Prelude.{◌==◌, ◌⊎◌}
use Rattle.std.proofs.lemmas.List.{ext_get_or, drop_more, take_at}
use Rattle.std.proofs.lemmas.Bool.Decides.{nat_tests}
use Rattle.jx_disk.specs.Disk.{Image, SameFiles, TornWrite, TornCut, ChangesFile}
use Rattle.jx_disk.specs.Calls.{DiskCall, Quiet, Written, Shortened, Synced, file_after, image_after, crash_bytes, crash_after, MayFollow, MayLeave}
use Rattle.jx_disk.specs.Told.{told, bytes_in, Shows}
use Rattle.jx_disk.specs.Crash.{MayInterrupt, is_listed, names, any_names, AreLeft, Lists}
use Rattle.jx_disk.specs.Steps.{torn_painted, torn_cut, written_here, written_elsewhere, shortened_here, shortened_elsewhere}
use Rattle.jx_disk.specs.declared.record.Call.{Call}
use Rattle.jx_disk.specs.declared.record.Call.TheVariants.{Read, Write, Cut, Sync}
use Rattle.jx_disk.specs.declared.record.FileBytes.{FileBytes}

-- ---- the image is one that a crash may leave

-- a write changes its file alone, whatever bytes it leaves there, and so does a cut
writes : (fill : Option ℕ) (file at : ℕ) (piece : List ℕ) (image : Image)
    → ChangesFile file (TornWrite at (length piece)) image (image_after fill (Written file at piece) image)
writes fill file at piece image = record {
  changed = subst (TornWrite at (length piece) (image file)) (sym (written_here fill file file at piece (image file) refl)) (torn_painted _ fill at piece (image file));
  others = λ other apart. written_elsewhere fill other file at piece (image other) apart;
}

cuts : (fill : Option ℕ) (file len : ℕ) (image : Image) → ChangesFile file (TornCut len) image (image_after fill (Shortened file len) image)
cuts fill file len image = record {
  changed = subst (TornCut len (image file)) (sym (shortened_here fill file file len (image file) refl)) (torn_cut len (image file));
  others = λ other apart. shortened_elsewhere fill other file len (image other) apart;
}

abbrev crashed : List DiskCall → Option ℕ → ℕ → Image → Image → Image
crashed calls fill count seen kept = λ file. crash_bytes calls fill count file (seen file) (kept file)

abbrev May : Image → (Image → Type 0) → List DiskCall → ℕ → Image → Type 0
May seen P calls count image = MayLeave seen P (take count calls) image ⊎ MayLeave seen P (take (suc count) calls) image

-- a crash during the first call
during : (call : DiskCall) (fill : Option ℕ) (calls : List DiskCall) (seen kept : Image) (P : Image → Type 0) → P kept
    → P (image_after fill call kept) ⊎ MayFollow call seen P (image_after fill call kept)
during Quiet fill calls seen kept P here = inl here
during (Written file at piece) fill calls seen kept P here = inr (kept, here, writes fill file at piece kept)
during (Shortened file len) fill calls seen kept P here = inr (kept, here, cuts fill file len kept)
during Synced fill calls seen kept P here = inl here

pub may : (calls : List DiskCall) (fill : Option ℕ) (count : ℕ) (seen kept : Image) (P : Image → Type 0) → P kept
    → May seen P calls count (crashed calls fill count seen kept)
may [] fill zero seen kept P here = inl here
may [] fill (suc count) seen kept P here = inl here
may (call ∷ calls) fill zero seen kept P here = during call fill calls seen kept P here
may (Synced ∷ calls) fill (suc count) seen kept P here = may calls fill count seen seen (SameFiles seen) (λ file. refl)
may (Quiet ∷ calls) fill (suc count) seen kept P here = may calls fill count seen kept P here
may (Written file at piece ∷ calls) fill (suc count) seen kept P here =
    may calls fill count (image_after None (Written file at piece) seen) (image_after fill (Written file at piece) kept) (MayFollow (Written file at piece) seen P)
    (kept, here, writes fill file at piece kept)
may (Shortened file len ∷ calls) fill (suc count) seen kept P here =
    may calls fill count (image_after None (Shortened file len) seen) (image_after fill (Shortened file len) kept) (MayFollow (Shortened file len) seen P)
    (kept, here, cuts fill file len kept)

pub may_interrupt : (calls : List DiskCall) (fill : Option ℕ) (count : ℕ) (opening : Image) → MayInterrupt opening calls count (crash_after calls fill count opening)
may_interrupt calls fill count opening = may calls fill count opening opening (SameFiles opening) (λ file. refl)

-- ---- the bytes of one file

pub shown_whole : (bytes buf : List ℕ) → length buf ≡ length bytes → Shows 0 bytes buf → buf ≡ bytes
shown_whole bytes buf long shows = ext_get_or 0 buf bytes long (λ k inside. shows k inside (omega arith) ∙ ap (λ (i : ℕ). get_or bytes i 0) (omega arith))

-- the same where the buffer stands in a list of its length
pub shown_kept : (len : ℕ) (bytes buf old : List ℕ) → length buf ≡ length old → length old ≡ len → len ≡ length bytes → Shows 0 bytes buf → take len (buf ++ drop (length buf) old) ≡ bytes
shown_kept len bytes buf old same long whole shows =
    let all : length buf ≡ len = same ∙ long in
    take_at buf (drop (length buf) old) len all ∙ shown_whole bytes buf (all ∙ whole) shows

-- a file that no call names stays as it is
apart_here : (fill : Option ℕ) (file other at : ℕ) (piece : List ℕ) → (file == other) ≡ false → file_after fill (Written other at piece) file [] ≡ []
apart_here fill file other at piece apart = written_elsewhere fill file other at piece [] (grind (arith, nat_tests))

apart_cut : (fill : Option ℕ) (file other len : ℕ) → (file == other) ≡ false → file_after fill (Shortened other len) file [] ≡ []
apart_cut fill file other len apart = shortened_elsewhere fill file other len [] (grind (arith, nat_tests))

or_left : (a b : Bool) → (a || b) ≡ false → a ≡ false
or_left false b e = refl
or_left true b e = e

or_right : (a b : Bool) → (a || b) ≡ false → b ≡ false
or_right false b e = e
or_right true b e = absurd cc

pub untouched : (fill : Option ℕ) (file : ℕ) (calls : List Call) (written : List ℕ) (count : ℕ) → any_names calls file ≡ false
    → crash_bytes (told calls written) fill count file [] [] ≡ []
untouched fill file [] written count apart = refl
untouched fill file (Read ∷ calls) written zero apart = refl
untouched fill file (Read ∷ calls) written (suc count) apart = untouched fill file calls written count apart
untouched fill file (Sync ∷ calls) written zero apart = refl
untouched fill file (Sync ∷ calls) written (suc count) apart = untouched fill file calls written count apart
untouched fill file (Write other at n ∷ calls) written zero apart = apart_here fill file other at (take n written) (or_left (file == other) (any_names calls file) apart)
untouched fill file (Write other at n ∷ calls) written (suc count) apart =
    let here = or_left (file == other) (any_names calls file) apart in
    (λ i. crash_bytes (told calls (drop n written)) fill count file (apart_here None file other at (take n written) here i) (apart_here fill file other at (take n written) here i))
    ∙ untouched fill file calls (drop n written) count (or_right (file == other) (any_names calls file) apart)
untouched fill file (Cut other len ∷ calls) written zero apart = apart_cut fill file other len (or_left (file == other) (any_names calls file) apart)
untouched fill file (Cut other len ∷ calls) written (suc count) apart =
    let here = or_left (file == other) (any_names calls file) apart in
    (λ i. crash_bytes (told calls written) fill count file (apart_cut None file other len here i) (apart_cut fill file other len here i))
    ∙ untouched fill file calls written count (or_right (file == other) (any_names calls file) apart)

-- ---- lists of files

pub none_listed : (files : List FileBytes) (file : ℕ) → is_listed files file ≡ false → bytes_in files file ≡ []
none_listed [] file none = refl
none_listed (f ∷ files) file none =
    rw (or_left (file == f.number) (is_listed files file) none) (none_listed files file (or_right (file == f.number) (is_listed files file) none))

listed-push : (files : List FileBytes) (f : FileBytes) (file : ℕ) → is_listed (files ++ f ∷ []) file ≡ (is_listed files file || (file == f.number))
listed-push [] f file = or_end (file == f.number)
  where
    or_end : (b : Bool) → (b || false) ≡ (false || b)
    or_end true = refl
    or_end false = refl
listed-push (g ∷ files) f file = ap (λ (b : Bool). file == g.number || b) (listed-push files f file) ∙ or_assoc (file == g.number) (is_listed files file) (file == f.number)
  where
    or_assoc : (a b c : Bool) → (a || (b || c)) ≡ ((a || b) || c)
    or_assoc true b c = refl
    or_assoc false b c = refl

bytes-push : (files : List FileBytes) (f : FileBytes) (file : ℕ) → bytes_in (files ++ f ∷ []) file ≡ cond (is_listed files file) (bytes_in files file) (cond (file == f.number) f.bytes.items [])
bytes-push [] f file = refl
bytes-push (g ∷ files) f file = by_test (file == g.number) (is_listed files file) (bytes_in (files ++ f ∷ []) file) (bytes_in files file) g.bytes.items (cond (file == f.number) f.bytes.items []) (bytes-push files f file)
  where
    by_test : (a b : Bool) (all rest here last : List ℕ) → all ≡ cond b rest last → cond a here all ≡ cond (a || b) (cond a here rest) last
    by_test true b all rest here last e = refl
    by_test false b all rest here last e = e

-- one file more
pub left_more : (left : ℕ → List ℕ) (files : List FileBytes) (f : FileBytes) → is_listed files f.number ≡ false → f.bytes.items ≡ left f.number → AreLeft left files → AreLeft left (files ++ f ∷ [])
left_more left files f new is so_far file listed =
    bytes-push files f file ∙ by_test (is_listed files file) (file == f.number) refl refl (sym (listed-push files f file) ∙ listed)
  where
    by_test : (a b : Bool) → is_listed files file ≡ a → (file == f.number) ≡ b → (is_listed files file || (file == f.number)) ≡ true
        → cond (is_listed files file) (bytes_in files file) (cond (file == f.number) f.bytes.items []) ≡ left file
    by_test true b here same some = rw here (so_far file here)
    by_test false true here same some =
        let e : file ≡ f.number = grind (arith, nat_tests) in
        rw (here, same) (is ∙ ap left (sym e))
    by_test false false here same some = absurd (never (sym some ∙ (λ i. here i || same i)))
      where
        never : true ≡ false → ⊥
        never e = cc

or_true_left : (a b : Bool) → a ≡ true → (a || b) ≡ true
or_true_left true b e = refl
or_true_left false b e = absurd cc

or_true_right : (a b : Bool) → b ≡ true → (a || b) ≡ true
or_true_right true b e = refl
or_true_right false b e = e

pub lists_more : (files : List FileBytes) (f : FileBytes) → Lists (is_listed files) (files ++ f ∷ [])
lists_more files f file listed = listed-push files f file ∙ or_true_left (is_listed files file) (file == f.number) listed

pub lists_last : (files : List FileBytes) (f : FileBytes) → is_listed (files ++ f ∷ []) f.number ≡ true
lists_last files f =
    let e : (f.number == f.number) ≡ true = grind (arith, nat_tests) in
    listed-push files f f.number ∙ or_true_right (is_listed files f.number) (f.number == f.number) e

-- what is left to be added
abbrev pub OneOf : (ℕ → Bool) → (ℕ → Bool) → (ℕ → Bool) → Type 0
OneOf kind there left = (file : ℕ) → kind file ≡ true → (there file || left file) ≡ true

-- what is still left, once one of these was added
still_left : (kind there first left now : ℕ → Bool) → OneOf kind there (λ file. first file || left file)
    → ((file : ℕ) → there file ≡ true → now file ≡ true) → ((file : ℕ) → first file ≡ true → now file ≡ true) → OneOf kind now left
still_left kind there first left now one kept added file is = by_test (there file) (first file) (left file) (now file) (one file is) (kept file) (added file)
  where
    by_test : (a b c d : Bool) → (a || (b || c)) ≡ true → (a ≡ true → d ≡ true) → (b ≡ true → d ≡ true) → (d || c) ≡ true
    by_test true b c d some kept added = or_true_left d c (kept refl)
    by_test false true c d some kept added = or_true_left d c (added refl)
    by_test false false c d some kept added = or_true_right d c some

pub opening_next : (kind : ℕ → Bool) (old new : List FileBytes) (opening : List FileBytes) (i : ℕ) (f : FileBytes) → i < length opening → OneOf kind (is_listed old) (is_listed (drop i opening))
    → Lists (is_listed old) new → is_listed new (get_or opening i f).number ≡ true → OneOf kind (is_listed new) (is_listed (drop (i + 1) opening))
opening_next kind old new opening i f inside one kept added =
    still_left kind (is_listed old) (λ file. file == (get_or opening i f).number) (is_listed (drop (i + 1) opening)) (is_listed new)
    (subst (λ (l : List FileBytes). OneOf kind (is_listed old) (is_listed l)) (drop_more opening i f inside) one) kept
    (λ file same. let e : file ≡ (get_or opening i f).number = grind (arith, nat_tests) in ap (is_listed new) e ∙ added)

pub calls_next : (kind : ℕ → Bool) (old new : List FileBytes) (calls : List Call) (i : ℕ) → i < length calls → OneOf kind (is_listed old) (any_names (drop i calls))
    → Lists (is_listed old) new → Lists (λ file. names file (get_or calls i Read)) new → OneOf kind (is_listed new) (any_names (drop (i + 1) calls))
calls_next kind old new calls i inside one kept added =
    still_left kind (is_listed old) (λ file. names file (get_or calls i Read)) (any_names (drop (i + 1) calls)) (is_listed new)
    (subst (λ (l : List Call). OneOf kind (is_listed old) (any_names l)) (drop_more calls i Read inside) one) kept added

-- all files are as they are left
pub all_left : (fill : Option ℕ) (count : ℕ) (opening : List FileBytes) (calls : List Call) (written : List ℕ) (files : List FileBytes) (file : ℕ)
    → AreLeft (λ f. crash_bytes (told calls written) fill count f (bytes_in opening f) (bytes_in opening f)) files → Lists (is_listed opening) files → Lists (any_names calls) files
    → bytes_in files file ≡ crash_bytes (told calls written) fill count file (bytes_in opening file) (bytes_in opening file)
all_left fill count opening calls written files file so_far opened called = by_test (is_listed files file) refl
  where
    not_listed : (kind : Bool) → (kind ≡ true → is_listed files file ≡ true) → is_listed files file ≡ false → kind ≡ false
    not_listed false lists none = refl
    not_listed true lists none = absurd (never (sym (lists refl) ∙ none))
      where
        never : true ≡ false → ⊥
        never e = cc

    by_test : (b : Bool) → is_listed files file ≡ b → bytes_in files file ≡ crash_bytes (told calls written) fill count file (bytes_in opening file) (bytes_in opening file)
    by_test true here = so_far file here
    by_test false none =
        let empty : bytes_in opening file ≡ [] = none_listed opening file (not_listed (is_listed opening file) (opened file) none) in
        none_listed files file none
        ∙ sym ((λ i. crash_bytes (told calls written) fill count file (empty i) (empty i)) ∙ untouched fill file calls written count (not_listed (any_names calls file) (called file) none))
