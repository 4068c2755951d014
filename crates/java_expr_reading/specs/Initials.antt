-- Which words of a list begin with a byte.
use Rattle.std.specs.Prelude.{◌≡◌, ◌≤◌, ◌==◌, ℕ, Bool, true, false, List, take, drop, length, slice_index, slice_range}
use Rattle.std.specs.List.{list_any, list_all}

-- whether this is the first byte of a word, where an empty word has 0
abbrev pub has_initial : ℕ → List ℕ → Bool
has_initial byte word = slice_index word 0 == byte

-- the words with this first byte are those from one place up to another
pub record InitialsBetween (byte : ℕ) (words : List (List ℕ)) (start end : ℕ) : Type 0 where
  pub none_before : list_any (has_initial byte) (take start words) ≡ false
  pub all_between : list_all (has_initial byte) (slice_range words start end) ≡ true
  pub none_after : list_any (has_initial byte) (drop end words) ≡ false
  pub ordered : start ≤ end
  pub within : end ≤ length words
