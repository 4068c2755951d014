-- What a reader returned, against what reading a list gives.
use Rattle.std.specs.Prelude.{◌≡◌, ℕ, ◌+◌, ◌^◌, nat_lt, nat_le, ◌*◌, ◌==◌, ◌&&◌, ◌||◌, Bool, false, if◌then◌else◌, get_or, ◌∷◌, List, [], ◌++◌, length, take, drop, map, Result, Ok, Err, ⊤}
use Rattle.std.specs.List.{list_any}
use Rattle.std.specs.Str.{is_utf8}
use Rattle.java_tree.specs.declared.index.IndexEntry.{IndexEntry}
use Rattle.java_tree.specs.declared.key.Category.{Category}
use Rattle.java_tree.specs.Keys.{category_at}
use Rattle.java_model.specs.IndexFile.Spelling.{block_count}
use Rattle.java_model.specs.IndexFile.Content.{Posting, is_path_after}
use Rattle.java_model.specs.IndexFile.Reading.{◌>>=◌, number_at, slice_at, ruled, may_share, is_suffix, entry_at, Blocks, blocks_at}
use Rattle.disk_index.specs.declared.fault.ReadFault.{ReadFault}
use Rattle.disk_index.specs.declared.fault.ReadFault.TheVariants as faults

-- the fault is that of the reading, unless memory ran out
abbrev pub Fails : {Y : Type 0} → ReadFault → Result Y ℕ → Type 0
Fails faults.Memory read = ⊤
Fails (faults.Left left) read = read ≡ Err left

-- the fault isn't that memory ran out
abbrev pub IsLeft : ReadFault → Type 0
IsLeft faults.Memory = ⊥
IsLeft (faults.Left left) = ⊤

-- what was returned, seen by `view`, is what the reading gives, unless memory ran out
abbrev pub Gives : {X Y : Type 0} → (X → Y) → Result X ReadFault → Result Y ℕ → Type 0
Gives view (Ok x) read = read ≡ Ok (view x)
Gives view (Err e) read = Fails e read

-- what was returned has something to do with what the reading gives, unless memory ran out
abbrev pub GivesSome : {X Y : Type 0} → (X → Y → Type 0) → Result X ReadFault → Result Y ℕ → Type 0
GivesSome {Y = Y} P (Ok x) read = (y : Y) × (read ≡ Ok y) × P x y
GivesSome P (Err e) read = Fails e read

-- the two fields of a path, and a stamp
abbrev pub path_at : List ℕ → List ℕ → Result (List ℕ × List ℕ) ℕ
path_at previous bytes = number_at 2 bytes >>= λ len. ruled (is_path_after previous) (slice_at len.0) len.1

abbrev pub stamp_at : List ℕ → Result (ℕ × List ℕ) ℕ
stamp_at bytes = ruled (λ s. nat_le s (2 ^ 62)) (number_at 8) bytes

abbrev pub entry_of : List ℕ → ℕ → IndexEntry
entry_of path stamp = record { path = path; stamp = stamp }

-- the bytes are the end of a file
abbrev pub EndsWith : List ℕ → List ℕ → Type 0
EndsWith file rest = (front : List ℕ) × (file ≡ front ++ rest)

-- the entry that stands at the front of bytes
abbrev pub entry_here : List ℕ → Result IndexEntry ℕ
entry_here bytes = entry_at [] bytes >>= λ x. Ok x.0

abbrev pub found : IndexEntry → Result IndexEntry ℕ
found entry = Ok entry

-- the entries stand at these places of a file
abbrev pub Shows : List ℕ → List ℕ → List IndexEntry → Type 0
Shows file places entries = map (λ place. entry_here (drop place file)) places ≡ map found entries

-- a word, and how many entries have it
pub record Head : Type 0 where
  pub word : List ℕ
  pub count : ℕ

abbrev pub head_of : List ℕ → ℕ → Head
head_of word count = record { word = word; count = count }

-- how many bytes of the previous word a word shares
abbrev pub shared_at : ℕ → List ℕ → List ℕ → Result (ℕ × List ℕ) ℕ
shared_at place previous bytes = ruled (may_share place previous) (number_at 4) bytes

-- a word, whose first bytes are those of the previous word
abbrev pub word_at : ℕ → List ℕ → ℕ → List ℕ → Result (List ℕ × List ℕ) ℕ
word_at place previous n bytes = number_at 4 bytes >>= λ len. ruled (is_suffix place previous n) (slice_at len.0) len.1
    >>= λ rest. Ok (take n previous ++ rest.0, rest.1)

abbrev pub count_at : List ℕ → Result (ℕ × List ℕ) ℕ
count_at bytes = ruled (nat_le 1) (number_at 4) bytes

unfoldable pub head_at : ℕ → List ℕ → List ℕ → Result (Head × List ℕ) ℕ
head_at place previous bytes = do
  shared ← shared_at place previous bytes
  word ← word_at place previous shared.0 shared.1
  count ← count_at word.1
  Ok (head_of word.0 count.0, count.1)

-- the number of an entry
abbrev pub entry_number_at : ℕ → ℕ → List ℕ → Result (ℕ × List ℕ) ℕ
entry_number_at range low bytes = ruled (λ m. nat_le low m && nat_lt m range) (number_at 4) bytes

-- the offset of a block at whose beginning so many bytes were left
abbrev pub offset_at : ℕ → ℕ → List ℕ → Result (ℕ × List ℕ) ℕ
offset_at total left bytes = ruled (λ o. o + left == total) (number_at 4) bytes

-- the words of a file, before the rules on their blocks' offsets
abbrev pub words_at : ℕ → List ℕ → Result Blocks ℕ
words_at range bytes = number_at 4 bytes >>= λ count. slice_at (4 * block_count count.0) count.1 >>= λ offsets. blocks_at range 0 [] count.0 offsets.1

-- the numbers are noted among the flags
pub record Notes (old : List Bool) (numbers : List ℕ) (new : List Bool) : Type 0 where
  pub long : length new ≡ length old
  pub each : (k : ℕ) → get_or new k false ≡ (get_or old k false || list_any (λ n. n == k) numbers)

-- whether a word is that of an admitted key
abbrev pub admits_word : (Category → List ℕ → Bool) → List ℕ → Bool
admits_word admitted [] = false
admits_word admitted (b ∷ text) = is_utf8 text && admitted (category_at b) text

-- the numbers of a word, if it is admitted
abbrev pub noted_in : (Category → List ℕ → Bool) → Posting → List ℕ
noted_in admitted posting = if admits_word admitted posting.word then posting.numbers else []

-- the numbers of those words that are admitted
abbrev pub noted : (Category → List ℕ → Bool) → List Posting → List ℕ
noted admitted [] = []
noted admitted (posting ∷ postings) = noted_in admitted posting ++ noted admitted postings
