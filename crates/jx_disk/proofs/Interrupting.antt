-- A crash during a later call, one call further on.
use Rattle.std.proofs.Common.{◌≡◌, ◌≢◌, ℕ, zero, suc, ◌+◌, ◌-◌, ◌<◌, ◌≤◌, List, [], ◌∷◌, length, get_or, take, drop, Option, None, IsTrue, length-drop, refl, sym, ◌∙◌, ap, subst, arith}
use Rattle.std.proofs.lemmas.List.{take_all}
use Rattle.jx_disk.proofs.Replaying.{others_in_range}
use Rattle.jx_disk.specs.Calls.{bytes_after, crash_bytes}
use Rattle.jx_disk.specs.Told.{told, rest_after, total_written, all_in_range}
use Rattle.jx_disk.specs.declared.record.Call.{Call}
use Rattle.jx_disk.specs.declared.record.Call.TheVariants.{Read, Write, Cut, Sync}

rest_enough : (others : List Call) (written rest : List ℕ) → rest ≡ written → total_written others ≤ length written → total_written (take (suc (length others) - 1) others) ≤ length rest
rest_enough others written rest is enough = omega (arith, ap length is, ap total_written (take_all (suc (length others) - 1) others (omega arith)))

range_kept : (others : List Call) → IsTrue (all_in_range others) → IsTrue (all_in_range (take (suc (length others) - 1) others))
range_kept others h = subst (λ (l : List Call). IsTrue (all_in_range l)) (sym (take_all (suc (length others) - 1) others (omega arith))) h

module _ (fill : Option ℕ) (file : ℕ) (written read left : List ℕ) where
  further : (call : Call) (others : List Call) (count : ℕ) → call ≢ Sync
      → crash_bytes (told (call ∷ others) written) fill (suc count) file read left
      ≡ crash_bytes (told others (rest_after call written)) fill count file (bytes_after None (told (call ∷ []) written) file read) (bytes_after fill (told (call ∷ []) written) file left)
  further Read others count other = refl
  further (Write f at n) others count other = refl
  further (Cut f n) others count other = refl
  further Sync others count other = absurd (other refl)

  pub one_further : (calls : List Call) (count : ℕ) → 0 < length calls → count ≢ 0 → get_or calls 0 Read ≢ Sync
      → crash_bytes (told calls written) fill count file read left
      ≡ crash_bytes (told (take (length calls - 1) (drop 1 calls)) (rest_after (get_or calls 0 Read) written)) fill (count - 1) file (bytes_after None (told (take 1 calls) written) file read) (bytes_after fill (told (take 1 calls) written) file left)
  one_further [] count some later other = absurd (omega arith)
  one_further (call ∷ others) zero some later other = absurd (later refl)
  one_further (call ∷ others) (suc count) some later other =
      further call others count other
      ∙ ap (λ (l : List Call). crash_bytes (told l (rest_after call written)) fill count file (bytes_after None (told (call ∷ []) written) file read) (bytes_after fill (told (call ∷ []) written) file left)) (sym (take_all (suc (length others) - 1) others (omega arith)))
      ∙ ap (λ (n : ℕ). crash_bytes (told (take (suc (length others) - 1) others) (rest_after call written)) fill n file (bytes_after None (told (call ∷ []) written) file read) (bytes_after fill (told (call ∷ []) written) file left)) (omega arith)

  -- at a sync what was pending has come to stay
  synced_further : (others : List Call) (count : ℕ) → crash_bytes (told (Sync ∷ others) written) fill (suc count) file read left ≡ crash_bytes (told others written) fill count file read read
  synced_further others count = refl

  pub one_synced : (calls : List Call) (count : ℕ) → 0 < length calls → count ≢ 0 → get_or calls 0 Read ≡ Sync
      → crash_bytes (told calls written) fill count file read left
      ≡ crash_bytes (told (take (length calls - 1) (drop 1 calls)) (rest_after (get_or calls 0 Read) written)) fill (count - 1) file (bytes_after None (told (take 1 calls) written) file read) (bytes_after None (told (take 1 calls) written) file read)
  one_synced [] count some later is = absurd (omega arith)
  one_synced (call ∷ others) zero some later is = absurd (later refl)
  one_synced (Sync ∷ others) (suc count) some later is =
      ap (λ (l : List Call). crash_bytes (told l written) fill count file read read) (sym (take_all (suc (length others) - 1) others (omega arith)))
      ∙ ap (λ (n : ℕ). crash_bytes (told (take (suc (length others) - 1) others) written) fill n file read read) (omega arith)
  one_synced (Read ∷ others) (suc count) some later is = cc
  one_synced (Write f at n ∷ others) (suc count) some later is = cc
  one_synced (Cut f n ∷ others) (suc count) some later is = cc

pub rest_written : (calls : List Call) (written rest : List ℕ) → 0 < length calls → rest ≡ rest_after (get_or calls 0 Read) written → total_written calls ≤ length written
    → total_written (take (length calls - 1) (drop 1 calls)) ≤ length rest
rest_written [] written rest some is enough = absurd (omega arith)
rest_written (Read ∷ others) written rest some is enough = rest_enough others written rest is enough
rest_written (Write f at n ∷ others) written rest some is enough = rest_enough others (drop n written) rest is (omega (arith, length-drop n written))
rest_written (Cut f n ∷ others) written rest some is enough = rest_enough others written rest is enough
rest_written (Sync ∷ others) written rest some is enough = rest_enough others written rest is enough

pub rest_in_range : (calls : List Call) → 0 < length calls → IsTrue (all_in_range calls) → IsTrue (all_in_range (take (length calls - 1) (drop 1 calls)))
rest_in_range [] some h = absurd (omega arith)
rest_in_range (Read ∷ others) some h = range_kept others h
rest_in_range (Write f at n ∷ others) some h = range_kept others (others_in_range (at + n) (all_in_range others) h)
rest_in_range (Cut f n ∷ others) some h = range_kept others h
rest_in_range (Sync ∷ others) some h = range_kept others h
