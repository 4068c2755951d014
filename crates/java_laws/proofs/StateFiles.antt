-- State files that the prover reads: one of zeros, a pair whose cells have one generation, and a pair that is passed over.
use Rattle.std.proofs.Common.{◌≡◌, ℕ, zero, suc, ◌+◌, ◌-◌, ◌==◌, ◌&&◌, false, List, [], ◌∷◌, ◌++◌, length, take, drop, replicate, Option, Some, None, codes, refl, ◌∙◌, ap, cond}
use Rattle.std.specs.Bool.{if◌then◌else◌}
use Rattle.std.specs.Prelude.{slice_index}
use Rattle.std.specs.Str.{is_utf8, chars}
use Rattle.std.proofs.lemmas.List.{length-append, length-replicate}
use lib.Utf8.{encode}
use Rattle.java_model.specs.StateFile.Cells.{Cell, cell_in, is_whole, counting, cell_at, cell_bytes, newest, newest_in, spelled, pair_count, state_length}
use Rattle.java_model.specs.StateFile.Recovered.{Files, Named, held_by, held_in, kept_or, first_named, recovered}

-- a ready file, this state file, and in each slot this image
abbrev files_of : List ℕ → (ℕ → List ℕ) → Files
files_of state image zero = 1 ∷ []
files_of state image (suc zero) = state
files_of state image (suc (suc n)) = image n

-- ---- zeros

abbrev zeros : List ℕ
zeros = replicate state_length 0

-- what begins with 0, or with nothing, counts for nothing
closed : (bytes : List ℕ) → slice_index bytes 0 ≡ 0 → counting bytes ≡ None
unfolding counting
closed bytes e = ap (λ (n : ℕ). if n == 1 && is_whole bytes then Some (cell_in bytes) else None) e

of_zeros : (n m k : ℕ) → slice_index (take m (drop k (replicate n 0))) 0 ≡ 0
of_zeros n zero k = refl
of_zeros zero (suc m) zero = refl
of_zeros zero (suc m) (suc k) = refl
of_zeros (suc n) (suc m) zero = refl
of_zeros (suc n) (suc m) (suc k) = of_zeros n (suc m) k

no_cell : (pair side : ℕ) → counting (cell_bytes pair side zeros) ≡ None
no_cell pair side = closed (cell_bytes pair side zeros) (of_zeros state_length 256 (cell_at pair side))

none_held : (image : ℕ → List ℕ) (pair : ℕ) → held_in (files_of zeros image) pair ≡ None
none_held image pair =
    ap (λ (a : Option Cell). held_by (files_of zeros image) pair (newest a (counting (cell_bytes pair 1 zeros)))) (no_cell pair 0)
    ∙ ap (λ (b : Option Cell). held_by (files_of zeros image) pair (newest None b)) (no_cell pair 1)

none_named : (held : ℕ → Option Named) (name : List ℕ) (count pair : ℕ) → ((q : ℕ) → held q ≡ None) → first_named held name count pair ≡ None
unfolding first_named
none_named held name zero pair none = refl
none_named held name (suc count) pair none =
    ap (λ (h : Option Named). kept_or name h (first_named held name count (suc pair))) (none pair) ∙ none_named held name count (suc pair) none

-- no container is held by a state file of zeros
zeros_hold_nothing : (image : ℕ → List ℕ) (name : List ℕ) → recovered (files_of zeros image) name ≡ None
zeros_hold_nothing image name =
    ap (λ (n : ℕ). cond (n == state_length) (first_named (held_in (files_of zeros image)) name pair_count 0) None) (length-replicate {A = ℕ} state_length 0)
    ∙ none_named (held_in (files_of zeros image)) name pair_count 0 (none_held image)

-- ---- a tie

-- an open cell of the container `src`, with an image of so many bytes
abbrev cell_of : ℕ → ℕ → List ℕ
cell_of generation size = 1 ∷ spelled false generation size (codes "src")

abbrev says : ℕ → ℕ → Cell
says generation size = record { rebuild = false; generation = generation; size = size; name = codes "src" }

-- of two cells of one generation that on side 0 is the newest
tie_goes_to_side_0 : (rest : List ℕ) → newest_in (cell_of 2 53 ++ cell_of 2 54 ++ rest) 0 ≡ Some (record { side = 0; cell = says 2 53 })
unfolding counting is_whole cell_in is_utf8 chars encode
tie_goes_to_side_0 rest = refl

-- and of two generations the greater, on either side
greater_is_newest : (rest : List ℕ) → newest_in (cell_of 2 53 ++ cell_of 3 54 ++ rest) 0 ≡ Some (record { side = 1; cell = says 3 54 })
unfolding counting is_whole cell_in is_utf8 chars encode
greater_is_newest rest = refl

-- ---- a pair that is passed over

-- pairs 0 and 1 both hold `src`, and no other pair is held
abbrev closed_cell : List ℕ
closed_cell = replicate 256 0

abbrev twice : List ℕ
twice = cell_of 1 2 ++ closed_cell ++ cell_of 5 3 ++ closed_cell

abbrev state : List ℕ
state = twice ++ replicate (state_length - 1024) 0

-- each slot holds bytes of its own number
abbrev images : ℕ → List ℕ
images n = n ∷ n ∷ n ∷ n ∷ []

both_are_held : held_in (files_of state images) 1
    ≡ Some (record { name = codes "src"; kept = record { rebuild = false; generation = 5; size = 3; image = 2 ∷ 2 ∷ 2 ∷ [] } })
unfolding counting is_whole cell_in is_utf8 chars encode
both_are_held = refl

has_its_length : length state ≡ state_length
has_its_length = length-append twice (replicate (state_length - 1024) 0) ∙ ap (λ (n : ℕ). 1024 + n) (length-replicate {A = ℕ} (state_length - 1024) 0)

-- the first pair counts, though the second has a later generation
first_pair_counts : recovered (files_of state images) (codes "src")
    ≡ Some (record { rebuild = false; generation = 1; size = 2; image = 0 ∷ 0 ∷ [] })
unfolding first_named counting is_whole cell_in is_utf8 chars encode
first_pair_counts =
    ap (λ (n : ℕ). cond (n == state_length) (first_named (held_in (files_of state images)) (codes "src") pair_count 0) None) has_its_length
