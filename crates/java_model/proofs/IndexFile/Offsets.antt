-- The offsets of blocks: as many as blocks, and each where its block begins.
use Rattle.std.proofs.Common.{◌≡◌, ℕ, zero, suc, ◌+◌, ◌*◌, ◌/◌, ◌^◌, ◌<◌, Bool, true, false, cond, List, [], ◌∷◌, ◌++◌, length, Ok, refl, ap, subst, ◌∙◌, append_assoc, arith}
use Rattle.std.specs.Prelude.{nat_lt, ◌==◌}
use Rattle.std.specs.List.{list_all}
use Rattle.std.proofs.lemmas.Bool.{ltb-true, eqb-true}
use Rattle.std.proofs.lemmas.List.{length-append}
use Rattle.std.proofs.lemmas.List.Concat.{flat_map-cons}
use Rattle.byteorder.specs.Endian.{big_bytes}
use Rattle.java_model.specs.IndexFile.Content.{Posting}
use Rattle.java_model.specs.IndexFile.Spelling.{numbers_bytes, posting_bytes, next_place, block_offsets, block_count}
use Rattle.java_model.specs.IndexFile.Reading.{number_at, ruled, offsets_at}
use Rattle.java_model.proofs.IndexFile.Tests.{and_left, and_right, and_both}
use Rattle.java_model.proofs.IndexFile.Fields.{IsBytes, bind_ok, ok_is, Takes, Takes-then, wide_4, number_takes, number_again, ruled_ok, ruled_again}
use Rattle.java_model.proofs.IndexFile.Postings.{Match}

abbrev pub fits_field : ℕ → Bool
fits_field offset = nat_lt offset (2 ^ 32)

lt_test : (a b : ℕ) → a < b → nat_lt a b ≡ true
lt_test a b lt = grind arith

eq_test : (a b : ℕ) → a ≡ b → (a == b) ≡ true
eq_test a b e = grind arith

pub offsets_take : (total : ℕ) (starts offsets : List ℕ) (bytes rest : List ℕ) → IsBytes bytes → offsets_at total starts bytes ≡ Ok rest → Match total starts offsets
    → Takes bytes (numbers_bytes offsets) rest × (list_all fits_field offsets ≡ true)
unfolding offsets_at
offsets_take total [] [] bytes rest fits e m = subst (λ (r : List ℕ). Takes bytes [] r × (true ≡ true)) (ok_is bytes rest e) (record { parts = refl; rest_fits = fits }, refl)
offsets_take total [] (offset ∷ offsets) bytes rest fits e m = absurd m
offsets_take total (left ∷ starts) [] bytes rest fits e m = absurd m
offsets_take total (left ∷ starts) (offset ∷ offsets) bytes rest fits e m =
    let a = bind_ok (ruled (λ o. o + left == total) (number_at 4) bytes) (λ o. offsets_at total starts o.1) rest e in
    let rule = ruled_ok (λ o. o + left == total) (number_at 4) bytes a.0 a.1 in
    let first = number_takes 4 (2 ^ 32) wide_4 bytes a.0 fits rule.0 in
    let is : a.0.0 ≡ offset = omega (arith, eqb-true (a.0.0 + left) total rule.1, m.0) in
    let second = offsets_take total starts offsets a.0.1 rest first.0.rest_fits a.2 m.1 in
    let head : Takes bytes (big_bytes 4 offset) a.0.1 = subst (λ (k : ℕ). Takes bytes (big_bytes 4 k) a.0.1) is first.0 in (
      rw flat_map-cons (Takes-then bytes (big_bytes 4 offset) a.0.1 (numbers_bytes offsets) rest head second.0),
      and_both (fits_field offset) (list_all fits_field offsets) (lt_test offset (2 ^ 32) (omega (arith, is, first.1))) second.1,
    )

pub offsets_again : (total : ℕ) (starts offsets rest : List ℕ) → Match total starts offsets → list_all fits_field offsets ≡ true → offsets_at total starts (numbers_bytes offsets ++ rest) ≡ Ok rest
unfolding offsets_at
offsets_again total [] [] rest m fits = refl
offsets_again total [] (offset ∷ offsets) rest m fits = absurd m
offsets_again total (left ∷ starts) [] rest m fits = absurd m
offsets_again total (left ∷ starts) (offset ∷ offsets) rest m fits =
    let small : offset < 2 ^ 32 = ltb-true offset (2 ^ 32) (and_left (fits_field offset) (list_all fits_field offsets) fits) in
    let after = numbers_bytes offsets ++ rest in
    let regrouped : numbers_bytes (offset ∷ offsets) ++ rest ≡ big_bytes 4 offset ++ after =
    ap (λ (t : List ℕ). t ++ rest) (flat_map-cons (λ o. big_bytes 4 o) offset offsets) ∙ append_assoc (big_bytes 4 offset) (numbers_bytes offsets) rest in
    let first = ruled_again (λ o. o + left == total) (number_at 4) (big_bytes 4 offset ++ after) (offset, after) (number_again 4 (2 ^ 32) wide_4 offset after small) (eq_test (offset + left) total m.0) in
    ap (offsets_at total (left ∷ starts)) regrouped ∙ rw first (offsets_again total starts offsets rest m.1 (and_right (fits_field offset) (list_all fits_field offsets) fits))

pub length-numbers_bytes : (numbers : List ℕ) → length (numbers_bytes numbers) ≡ 4 * length numbers
length-numbers_bytes [] = refl
length-numbers_bytes (number ∷ numbers) =
    ap length (flat_map-cons (λ o. big_bytes 4 o) number numbers) ∙ length-append (big_bytes 4 number) (numbers_bytes numbers)
    ∙ omega (arith, length-numbers_bytes numbers)

-- words from a place on begin as many blocks as this
abbrev ahead : ℕ → ℕ
ahead zero = 15
ahead (suc place) = place

next_is : (place : ℕ) → place < 15 → next_place (suc place) ≡ cond (suc place == 15) 0 (suc (suc place))
next_is place lt = refl

blocks_from : (place at : ℕ) (previous : List ℕ) (postings : List Posting) → place < 16 → length (block_offsets at place previous postings) ≡ (length postings + ahead place) / 16
blocks_from zero at previous [] lt = refl
blocks_from (suc place) at previous [] lt = omega arith
blocks_from zero at previous (posting ∷ postings) lt =
    omega (arith, blocks_from 1 (at + length (posting_bytes 0 previous posting)) posting.word postings (omega arith))
blocks_from (suc place) at previous (posting ∷ postings) lt =
    elim (suc place == 15) as (λ b. (suc place == 15) ≡ b → length (block_offsets at (suc place) previous (posting ∷ postings)) ≡ (suc (length postings) + place) / 16) [
      | true ↦ λ t.
          let last : suc place ≡ 15 = eqb-true (suc place) 15 t in
          rw t (omega (arith, last, blocks_from 0 (at + length (posting_bytes (suc place) previous posting)) posting.word postings (omega arith)))
      | false ↦ λ f.
          let early : suc place < 15 = grind arith in
          rw f (omega (arith, blocks_from (suc (suc place)) (at + length (posting_bytes (suc place) previous posting)) posting.word postings (omega (arith, early))))
    ] refl

pub length-block_offsets : (at : ℕ) (postings : List Posting) → length (block_offsets at 0 [] postings) ≡ block_count (length postings)
length-block_offsets at postings = blocks_from 0 at [] postings (omega arith)
