-- What is written of an index file.
use Rattle.std.specs.Prelude.{◌≡◌, ℕ, ◌<◌, Bool, true, List, [], ◌∷◌, length, map, ⊤}
use Rattle.std.specs.Str.{bytes_eq}
use Rattle.java_tree.specs.declared.index.IndexEntry.{IndexEntry}
use Rattle.java_tree.specs.declared.index.Row.{Row}
use Rattle.java_tree.specs.Keys.{category_byte}
use Rattle.java_model.specs.IndexFile.Content.{Posting, rows_of, are_entries_after, are_postings_after}
use Rattle.java_model.specs.IndexFile.Spelling.{next_place, postings_bytes, block_offsets, file_bytes}
use Rattle.disk_index.specs.declared.write.TheConstants.{MAX_IMAGE}
use Rattle.disk_index.specs.declared.fault.EncodeFault.{EncodeFault}
use Rattle.disk_index.specs.declared.fault.EncodeFault.TheVariants as faults
use Rattle.disk_index.specs.declared.spelled.SpelledWords.{SpelledWords}

-- the word of a row's key
abbrev pub row_word : Row → List ℕ
row_word row = category_byte row.category ∷ row.key

abbrev pub same_word : Row → Row → Bool
same_word left right = bytes_eq (row_word left) (row_word right)

-- a word, and the entries of rows
abbrev pub posting_of : List ℕ → List Row → Posting
posting_of word rows = record { word = word; numbers = map (λ row. row.entry) rows }

-- the place after words, and the last of them
abbrev pub place_after : ℕ → List Posting → ℕ
place_after place [] = place
place_after place (posting ∷ postings) = place_after (next_place place) postings

abbrev pub last_word : List ℕ → List Posting → List ℕ
last_word previous [] = previous
last_word previous (posting ∷ postings) = last_word posting.word postings

-- the words were spelled, their blocks' places counted from the first one's
pub record Spells (words : SpelledWords) (postings : List Posting) : Type 0 where
  pub bytes : words.bytes.items ≡ postings_bytes 0 [] postings
  pub starts : words.starts.items ≡ block_offsets 0 0 [] postings
  pub count : words.count ≡ length postings
  pub place : words.place ≡ place_after 0 postings
  pub last : words.last.items ≡ last_word [] postings

-- entries that strictly rise by their paths, and the rows of words that strictly rise, with their numbers
abbrev pub HasContent : List IndexEntry → List Row → Type 0
HasContent entries rows =
    (postings : List Posting) × (are_entries_after [] entries ≡ true)
    × (are_postings_after (length entries) [] postings ≡ true) × (rows ≡ rows_of postings)

-- the file would have so many bytes, unless memory ran out
abbrev pub IsTooLong : List IndexEntry → List Row → EncodeFault → Type 0
IsTooLong entries rows (faults.TooLong long) =
    (MAX_IMAGE < long)
    × ((postings : List Posting) → are_postings_after (length entries) [] postings ≡ true → rows ≡ rows_of postings
    → long ≡ length (file_bytes entries postings))
IsTooLong entries rows faults.NoMemory = ⊤
