-- A cell that is spelled counts behind an open gate, and says what was spelled.
use Rattle.std.proofs.Common.{◌≡◌, ℕ, ◌+◌, ◌-◌, ◌^◌, ◌<◌, Bool, true, false, ◌&&◌, ◌||◌, ◌==◌, cond, List, ◌∷◌, ◌++◌, length, take, drop, replicate, Some, None, zero, suc, refl, sym, ◌∙◌, ap}
use Rattle.std.specs.Bool.{if◌then◌else◌}
use Rattle.std.specs.List.{list_all}
use Rattle.std.proofs.lemmas.List.{take_at, drop_at, drop-drop}
use Rattle.byteorder.specs.Endian.{big_number, big_bytes}
use Rattle.byteorder.specs.Numbers.{big_number-reads_back}
use Rattle.java_model.specs.StateFile.Cells.{Cell, cell_in, is_sound, is_whole, counting, spelled}

all_zeros : (n : ℕ) → list_all (λ b. b == 0) (replicate n 0) ≡ true
all_zeros zero = refl
all_zeros (suc n) = all_zeros n

module _ (rebuild : Bool) (generation size : ℕ) (name : List ℕ) where
  cell : Cell
  cell = record { rebuild = rebuild; generation = generation; size = size; name = name }

  bytes : List ℕ
  bytes = 1 ∷ spelled rebuild generation size name

  tail : List ℕ
  tail = name ++ replicate (237 - length name) 0

  kind_rebuild : (b : Bool) → ((if b then 2 else 1) == 2) ≡ b
  kind_rebuild true = refl
  kind_rebuild false = refl

  kind_either : (b : Bool) → ((if b then 2 else 1) == 1 || (if b then 2 else 1) == 2) ≡ true
  kind_either true = refl
  kind_either false = refl

  says : generation < 2 ^ 64 → size < 2 ^ 64 → cell_in (1 ∷ spelled rebuild generation size name) ≡ record { rebuild = rebuild; generation = generation; size = size; name = name }
  unfolding cell_in
  says short_generation short_size =
      let a = kind_rebuild rebuild in
      let b : big_number 8 (big_bytes 8 generation ++ (big_bytes 8 size ++ (length name ∷ (name ++ replicate (237 - length name) 0)))) ≡ generation =
      big_number-reads_back 8 generation (big_bytes 8 size ++ (length name ∷ (name ++ replicate (237 - length name) 0))) short_generation in
      let d : big_number 8 (big_bytes 8 size ++ (length name ∷ (name ++ replicate (237 - length name) 0))) ≡ size = big_number-reads_back 8 size (length name ∷ (name ++ replicate (237 - length name) 0)) short_size in
      let e : take (length name) (name ++ replicate (237 - length name) 0) ≡ name = take_at name (replicate (237 - length name) 0) (length name) refl in
      λ i. record { rebuild = a i; generation = b i; size = d i; name = e i }

  whole : generation < 2 ^ 64 → size < 2 ^ 64 → is_sound (record { rebuild = rebuild; generation = generation; size = size; name = name }) ≡ true → is_whole (1 ∷ spelled rebuild generation size name) ≡ true
  unfolding is_whole
  whole short_generation short_size sound =
      ap (λ (b : Bool). b && is_sound (cell_in (1 ∷ spelled rebuild generation size name)) && list_all (λ x. x == 0) (drop (19 + length name) (1 ∷ spelled rebuild generation size name))) (kind_either rebuild)
      ∙ ap (λ (c : Cell). true && is_sound c && list_all (λ x. x == 0) (drop (19 + length name) (1 ∷ spelled rebuild generation size name))) (says short_generation short_size)
      ∙ ap (λ (b : Bool). true && b && list_all (λ x. x == 0) (drop (19 + length name) (1 ∷ spelled rebuild generation size name))) sound
      ∙ ap (λ (l : List ℕ). list_all (λ x. x == 0) l) rest ∙ all_zeros (237 - length name)
    where
      rest : drop (19 + length name) (1 ∷ spelled rebuild generation size name) ≡ replicate (237 - length name) 0
      rest = sym (drop-drop (length name) 19 (1 ∷ spelled rebuild generation size name)) ∙ drop_at name (replicate (237 - length name) 0) (length name) refl

  pub counts_spelled : generation < 2 ^ 64 → size < 2 ^ 64 → is_sound (record { rebuild = rebuild; generation = generation; size = size; name = name }) ≡ true
      → counting (1 ∷ spelled rebuild generation size name) ≡ Some (record { rebuild = rebuild; generation = generation; size = size; name = name })
  unfolding counting
  counts_spelled short_generation short_size sound =
      ap (λ (b : Bool). cond b (Some (cell_in (1 ∷ spelled rebuild generation size name))) None) (whole short_generation short_size sound) ∙ ap Some (says short_generation short_size)
