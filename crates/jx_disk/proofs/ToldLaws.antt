-- A record with one call more stands for the calls before and for that call.
use Rattle.std.proofs.Common.{◌≡◌, ℕ, ◌+◌, ◌≤◌, List, [], ◌∷◌, ◌++◌, length, take, drop, IsTrue, sym, ◌∙◌, ap, refl, arith, length-drop, length-take}
use Rattle.std.proofs.lemmas.List.{take-append-le, drop-append-le, nil_from_length}
use Rattle.std.proofs.lemmas.Bool.Decides.{nat_tests}
use Rattle.jx_disk.specs.Calls.{DiskCall, Quiet, Written, Shortened, Synced, bytes_written}
use Rattle.jx_disk.specs.Told.{told, rest_after, total_written, all_in_range}
use Rattle.jx_disk.specs.declared.record.Call.{Call}
use Rattle.jx_disk.specs.declared.record.Call.TheVariants.{Read, Write, Cut, Sync}

pub told-push : (calls : List Call) (written piece : List ℕ) (call : Call) → total_written calls ≡ length written → told (calls ++ call ∷ []) (written ++ piece) ≡ told calls written ++ told (call ∷ []) piece
told-push [] written piece call counts = ap (λ (l : List ℕ). told (call ∷ []) (l ++ piece)) (nil_from_length written (sym counts))
told-push (Read ∷ calls) written piece call counts = ap (λ (l : List DiskCall). Quiet ∷ l) (told-push calls written piece call counts)
told-push (Write file at n ∷ calls) written piece call counts =
    ap (λ (l : List ℕ). Written file at l ∷ told (calls ++ call ∷ []) (drop n (written ++ piece))) (take-append-le n written piece (omega arith))
    ∙ ap (λ (l : List ℕ). Written file at (take n written) ∷ told (calls ++ call ∷ []) l) (drop-append-le n written piece (omega arith))
    ∙ ap (λ (l : List DiskCall). Written file at (take n written) ∷ l) (told-push calls (drop n written) piece call (omega (arith, length-drop n written)))
told-push (Cut file n ∷ calls) written piece call counts = ap (λ (l : List DiskCall). Shortened file n ∷ l) (told-push calls written piece call counts)
told-push (Sync ∷ calls) written piece call counts = ap (λ (l : List DiskCall). Synced ∷ l) (told-push calls written piece call counts)

pub total_written-push : (calls : List Call) (call : Call) → total_written (calls ++ call ∷ []) ≡ total_written calls + total_written (call ∷ [])
total_written-push [] call = omega arith
total_written-push (Read ∷ calls) call = total_written-push calls call
total_written-push (Write file at n ∷ calls) call = omega (arith, total_written-push calls call)
total_written-push (Cut file n ∷ calls) call = total_written-push calls call
total_written-push (Sync ∷ calls) call = total_written-push calls call

pub all_in_range-push : (calls : List Call) (call : Call) → IsTrue (all_in_range calls) → IsTrue (all_in_range (call ∷ [])) → IsTrue (all_in_range (calls ++ call ∷ []))
all_in_range-push [] call before here = here
all_in_range-push (Read ∷ calls) call before here = all_in_range-push calls call before here
all_in_range-push (Write file at n ∷ calls) call before here = let more = all_in_range-push calls call in grind (arith, nat_tests)
all_in_range-push (Cut file n ∷ calls) call before here = all_in_range-push calls call before here
all_in_range-push (Sync ∷ calls) call before here = all_in_range-push calls call before here

pub length-told : (calls : List Call) (written : List ℕ) → length (told calls written) ≡ length calls
length-told [] written = refl
length-told (call ∷ calls) written = omega (arith, length-told calls (rest_after call written))

-- a record's calls write the bytes that it counts
pub written-told : (calls : List Call) (written : List ℕ) → total_written calls ≤ length written → bytes_written (told calls written) ≡ total_written calls
written-told [] written enough = refl
written-told (Read ∷ calls) written enough = written-told calls written enough
written-told (Write file at n ∷ calls) written enough =
    omega (arith, length-take n written, written-told calls (drop n written) (omega (arith, length-drop n written)))
written-told (Cut file n ∷ calls) written enough = written-told calls written enough
written-told (Sync ∷ calls) written enough = written-told calls written enough
