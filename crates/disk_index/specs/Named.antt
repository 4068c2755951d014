-- Words of one name: where a search for them begins, and where it may stop.
use Rattle.std.specs.Prelude.{◌≡◌, ◌⊎◌, ◌<◌, ◌≤◌, if◌then◌else◌, get_or, suc, ℕ, ◌*◌, Bool, true, false, ◌&&◌, ◌||◌, nat_lt, ◌==◌, List, [], ◌∷◌, ◌++◌, length, drop, Result, Ok, Err, ⊤}
use Rattle.std.specs.List.{list_any}
use Rattle.java_tree.specs.declared.key.Category.{Category}
use Rattle.java_tree.specs.Keys.{category_byte, is_before}
use Rattle.java_model.specs.IndexFile.Content.{Posting}
use Rattle.java_model.specs.IndexFile.Spelling.{block_count}
use Rattle.java_model.specs.IndexFile.Reading.{◌>>=◌, number_at, slice_at, Blocks, blocks_at, offsets_at}
use Rattle.disk_index.specs.Reads.{Fails, EndsWith, noted}
use Rattle.disk_index.specs.declared.fault.ReadFault.{ReadFault}

-- a word comes after each word that begins with the key
abbrev pub is_past : List ℕ → List ℕ → Bool
is_past [] word = false
is_past (k ∷ key) [] = false
is_past (k ∷ key) (b ∷ word) = nat_lt k b || (k == b && is_past key word)

-- the first word of a block
abbrev pub first_word : List ℕ → Result (List ℕ) ℕ
first_word bytes = do
  shared ← number_at 4 bytes
  len ← number_at 4 shared.1
  word ← slice_at len.0 len.1
  Ok word.0

abbrev pub is_word_before : List ℕ → Result (List ℕ) ℕ → Bool
is_word_before key (Ok word) = is_before word key
is_word_before key (Err left) = false

-- the first word of a block comes before the key
abbrev pub begins_before : List ℕ → List ℕ → Bool
begins_before key block = is_word_before key (first_word block)

-- the bytes of a file from the place on that a table of offsets has for a block
abbrev pub from_offset : List ℕ → Result (ℕ × List ℕ) ℕ → List ℕ
from_offset file (Ok offset) = drop offset.0 file
from_offset file (Err left) = []

abbrev pub block_bytes : List ℕ → List ℕ → ℕ → List ℕ
block_bytes file table block = from_offset file (number_at 4 (drop (4 * block) table))

-- the first of these words is past the key, if there is one
abbrev pub BeginsPast : List ℕ → List Posting → Type 0
BeginsPast key [] = ⊤
BeginsPast key (posting ∷ postings) = is_past key posting.word ≡ true

-- The numbers of the admitted words up to some word were added, and that word comes after each that begins with the key.
pub record Visits (admitted : Category → List ℕ → Bool) (key : List ℕ) (postings : List Posting) (old new : List ℕ) : Type 0 where
  pub visited : List Posting
  pub skipped : List Posting
  pub all : postings ≡ visited ++ skipped
  pub past : BeginsPast key skipped
  pub added : new ≡ old ++ noted admitted visited

-- what a walk over words returned, against what reading them gives
abbrev pub Walks : {X : Type 0} → (Category → List ℕ → Bool) → List ℕ → List ℕ → List ℕ → Result X ReadFault → Result Blocks ℕ → Type 0
Walks admitted key old new (Ok done) (Ok blocks) = Visits admitted key blocks.postings old new
Walks admitted key old new (Ok done) (Err left) = ⊤
Walks admitted key old new (Err e) read = Fails e read

-- the words of a file, behind the table of their blocks' offsets
pub record AreWords (file table : List ℕ) (range count : ℕ) (postings : List Posting) : Type 0 where
  pub blocks : Blocks
  pub rest : List ℕ
  pub read : blocks_at range 0 [] count (drop (4 * block_count count) table) ≡ Ok blocks
  pub offsets : offsets_at (length file) blocks.starts table ≡ Ok rest
  pub inside : EndsWith file table
  pub same : blocks.postings ≡ postings

abbrev pub has : List ℕ → ℕ → Bool
has numbers k = list_any (λ n. n == k) numbers

-- a pattern's keys of one category
abbrev pub in_category : (Category → List ℕ → Bool) → ℕ → Category → List ℕ → Bool
in_category admitted byte category text = admitted category text && category_byte category == byte

-- the numbers of the admitted words of a category are there, and besides those that were none but of admitted words
pub record Finds (admitted : Category → List ℕ → Bool) (byte : ℕ) (postings : List Posting) (old new : List ℕ) : Type 0 where
  pub keeps : (k : ℕ) → has old k ≡ true → has new k ≡ true
  pub all : (k : ℕ) → has (noted (in_category admitted byte) postings) k ≡ true → has new k ≡ true
  pub only : (k : ℕ) → has new k ≡ true → (has old k || has (noted admitted postings) k) ≡ true

-- a number below the next one that is wanted is left out, and another one is appended where its entry is live
abbrev pub IsPushed : List Bool → ℕ → ℕ → List ℕ → List ℕ → ℕ → Type 0
IsPushed live next number old new after =
    ((number < next) × (after ≡ next) × (new ≡ old))
    ⊎ ((next ≤ number) × (after ≡ suc number) × (new ≡ old ++ (if get_or live number false then number ∷ [] else [])))
