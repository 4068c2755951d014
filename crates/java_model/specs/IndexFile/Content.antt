-- What an index file holds: entries, and words with the entries that have them.
use Rattle.std.specs.Prelude.{ℕ, suc, ◌^◌, Bool, true, ◌&&◌, nat_lt, nat_le, List, [], ◌∷◌, length, map}
use Rattle.std.specs.List.{flat_map}
use Rattle.std.specs.Str.{is_utf8}
use Rattle.java_tree.specs.declared.index.IndexEntry.{IndexEntry}
use Rattle.java_tree.specs.declared.index.Row.{Row}
use Rattle.java_tree.specs.declared.key.Category.TheVariants.{Ref}
use Rattle.java_tree.specs.Keys.{is_before, is_word, category_at}
use Rattle.java_tree.specs.Names.{is_source_path}

-- a word, and the numbers of the entries that have it
pub record Posting : Type 0 where
  pub word : List ℕ
  pub numbers : List ℕ

-- the row of a word and an entry
abbrev pub row_of : List ℕ → ℕ → Row
row_of [] number = record { category = Ref; key = []; entry = number }
row_of (b ∷ text) number = record { category = category_at b; key = text; entry = number }

-- the rows of the words, in their order
abbrev pub rows_of : List Posting → List Row
rows_of postings = flat_map (λ posting. map (row_of posting.word) posting.numbers) postings

-- the path of a Java source that comes after another
abbrev pub is_path_after : List ℕ → List ℕ → Bool
is_path_after previous path = is_before previous path && is_utf8 path && is_source_path path

-- entries whose paths strictly rise, after a path
abbrev pub are_entries_after : List ℕ → List IndexEntry → Bool
are_entries_after previous [] = true
are_entries_after previous (entry ∷ entries) = is_path_after previous entry.path && nat_le entry.stamp (2 ^ 62) && are_entries_after entry.path entries

-- numbers of entries that strictly rise, from `low` on and below `range`
abbrev pub are_numbers_from : ℕ → ℕ → List ℕ → Bool
are_numbers_from range low [] = true
are_numbers_from range low (number ∷ numbers) = nat_le low number && nat_lt number range && are_numbers_from range (suc number) numbers

-- words of keys that strictly rise, after a word, each with entries
abbrev pub are_postings_after : ℕ → List ℕ → List Posting → Bool
are_postings_after range previous [] = true
are_postings_after range previous (posting ∷ postings) =
    is_before previous posting.word && is_word posting.word && nat_le 1 (length posting.numbers)
    && are_numbers_from range 0 posting.numbers && are_postings_after range posting.word postings
