-- The one spelling of an index file. Numbers are big-endian.
use Rattle.std.specs.Prelude.{◌≡◌, ℕ, zero, suc, ◌+◌, ◌*◌, ◌/◌, ◌^◌, ◌<◌, Bool, true, ◌&&◌, nat_lt, ◌==◌, IsTrue, if◌then◌else◌, List, [], ◌∷◌, ◌++◌, length, drop, codes}
use Rattle.std.specs.List.{flat_map, list_all}
use Rattle.byteorder.specs.Endian.{big_bytes}
use Rattle.java_tree.specs.declared.index.IndexEntry.{IndexEntry}
use Rattle.java_tree.specs.declared.index.Row.{Row}
use Rattle.java_model.specs.IndexFile.Content.{Posting, rows_of, are_entries_after, are_postings_after}

-- the four bytes that begin a file, and those that began a file of the older format
abbrev pub mark : List ℕ
mark = codes "JXF2"

abbrev pub old_mark : List ℕ
old_mark = codes "JXF1"

abbrev pub entry_bytes : IndexEntry → List ℕ
entry_bytes entry = big_bytes 2 (length entry.path) ++ (entry.path ++ big_bytes 8 entry.stamp)

-- the length of the longest common prefix
abbrev pub common : List ℕ → List ℕ → ℕ
common [] ys = 0
common (x ∷ xs) [] = 0
common (x ∷ xs) (y ∷ ys) = if x == y then suc (common xs ys) else 0

-- A block has 16 words. A word's place in its block, from 0, and the place after it.
abbrev pub next_place : ℕ → ℕ
next_place place = if place == 15 then 0 else suc place

-- how many bytes of the previous word a word isn't spelled with: none in a block's first word
abbrev pub shared : ℕ → List ℕ → List ℕ → ℕ
shared zero previous word = 0
shared (suc place) previous word = common previous word

abbrev pub numbers_bytes : List ℕ → List ℕ
numbers_bytes numbers = flat_map (λ number. big_bytes 4 number) numbers

abbrev pub suffix : ℕ → List ℕ → List ℕ → List ℕ
suffix place previous word = drop (shared place previous word) word

abbrev pub posting_bytes : ℕ → List ℕ → Posting → List ℕ
posting_bytes place previous posting =
    big_bytes 4 (shared place previous posting.word)
    ++ (big_bytes 4 (length (suffix place previous posting.word))
    ++ (suffix place previous posting.word
    ++ (big_bytes 4 (length posting.numbers)
    ++ numbers_bytes posting.numbers)))

abbrev pub postings_bytes : ℕ → List ℕ → List Posting → List ℕ
postings_bytes place previous [] = []
postings_bytes place previous (posting ∷ postings) = posting_bytes place previous posting ++ postings_bytes (next_place place) posting.word postings

-- where the blocks begin, if the first of these words begins at this place of the file
abbrev pub block_offsets : ℕ → ℕ → List ℕ → List Posting → List ℕ
block_offsets at place previous [] = []
block_offsets at zero previous (posting ∷ postings) = at ∷ block_offsets (at + length (posting_bytes zero previous posting)) 1 posting.word postings
block_offsets at (suc place) previous (posting ∷ postings) = block_offsets (at + length (posting_bytes (suc place) previous posting)) (next_place (suc place)) posting.word postings

abbrev pub block_count : ℕ → ℕ
block_count words = (words + 15) / 16

-- where the first block begins
abbrev pub blocks_start : List IndexEntry → List Posting → ℕ
blocks_start entries postings = 12 + (length (flat_map entry_bytes entries) + 4 * block_count (length postings))

abbrev pub offsets_of : List IndexEntry → List Posting → List ℕ
offsets_of entries postings = block_offsets (blocks_start entries postings) 0 [] postings

abbrev pub file_bytes : List IndexEntry → List Posting → List ℕ
file_bytes entries postings =
    mark ++ (big_bytes 4 (length entries) ++ (flat_map entry_bytes entries
    ++ (big_bytes 4 (length postings) ++ (numbers_bytes (offsets_of entries postings)
    ++ postings_bytes 0 [] postings))))

-- the numbers of a word's spelling fit their four bytes
abbrev pub fit_fields : ℕ → List ℕ → List Posting → Bool
fit_fields place previous [] = true
fit_fields place previous (posting ∷ postings) =
    nat_lt (shared place previous posting.word) (2 ^ 32) && nat_lt (length (suffix place previous posting.word)) (2 ^ 32)
    && nat_lt (length posting.numbers) (2 ^ 32) && fit_fields (next_place place) posting.word postings

-- entries and words that have a file
pub record HaveFile (entries : List IndexEntry) (postings : List Posting) : Type 0 where
  pub entries_rise : IsTrue (are_entries_after [] entries)
  pub postings_rise : IsTrue (are_postings_after (length entries) [] postings)
  pub entries_fit : length entries < 2 ^ 32
  pub postings_fit : length postings < 2 ^ 32
  pub fields_fit : IsTrue (fit_fields 0 [] postings)
  pub offsets_fit : IsTrue (list_all (λ offset. nat_lt offset (2 ^ 32)) (offsets_of entries postings))

-- the bytes are the file of these entries and rows
abbrev pub IsIndexFile : List ℕ → List IndexEntry → List Row → Type 0
IsIndexFile bytes entries rows =
    (postings : List Posting) × HaveFile entries postings × (rows ≡ rows_of postings) × (bytes ≡ file_bytes entries postings)
