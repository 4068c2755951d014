-- A disk part: what its file holds, and which entries are live.
use Rattle.std.specs.Prelude.{◌≡◌, ℕ, zero, suc, ◌<◌, ◌^◌, Bool, true, false, ◌&&◌, ◌==◌, List, [], ◌∷◌, filter, length, drop, map, get_or, slice_get, Some, Result, Ok, Err, ⊤}
use Rattle.std.specs.List.{list_all, list_any}
use Rattle.java_tree.specs.declared.index.IndexEntry.{IndexEntry}
use Rattle.java_tree.specs.declared.index.Row.{Row}
use Rattle.java_tree.specs.declared.key.Category.{Category}
use Rattle.java_model.specs.IndexFile.Content.{are_postings_after, rows_of}
use Rattle.java_model.specs.IndexFile.Spelling.{IsIndexFile}
use Rattle.java_model.specs.IndexFile.Reading.{Content, HasFault, content_at, postings_at, is_old}
use Rattle.disk_index.specs.declared.fault.FileFault.{FileFault}
use Rattle.disk_index.specs.declared.fault.FileFault.TheVariants as faults
use Rattle.disk_index.specs.Reads.{Shows}

-- the entries and the rows of a file, and for each entry whether it is live
pub record Part : Type 0 where
  pub entries : List IndexEntry
  pub rows : List Row
  pub live : List Bool

-- what was read, or nothing
abbrev pub content_or_none : Result Content ℕ → Content
content_or_none (Ok content) = content
content_or_none (Err left) = record { entries = []; postings = [] }

abbrev pub content_of : List ℕ → Content
content_of bytes = content_or_none (content_at bytes)

abbrev pub part_of : List ℕ → List Bool → Part
part_of bytes live = record { entries = (content_of bytes).entries; rows = rows_of (content_of bytes).postings; live = live }

-- The table of a part: where its entries stand, where its words do, and which entries are live.
pub record IsTable (bytes places : List ℕ) (words : ℕ) (live : List Bool) : Type 0 where
  pub long : length live ≡ length (content_of bytes).entries
  pub small : length (content_of bytes).entries < 2 ^ 32
  pub legal : are_postings_after (length (content_of bytes).entries) [] (content_of bytes).postings ≡ true
  pub shown : Shows bytes places (content_of bytes).entries
  pub read : (content : Content) → content_at bytes ≡ Ok content
      → postings_at (length bytes) (length content.entries) (drop words bytes) ≡ Ok content.postings

-- what a table is made from
pub record IsRead (bytes places : List ℕ) (words : ℕ) (content : Content) : Type 0 where
  pub is : content_at bytes ≡ Ok content
  pub file : IsIndexFile bytes content.entries (rows_of content.postings)
  pub small : length content.entries < 2 ^ 32
  pub legal : are_postings_after (length content.entries) [] content.postings ≡ true
  pub shown : Shows bytes places content.entries
  pub read : postings_at (length bytes) (length content.entries) (drop words bytes) ≡ Ok content.postings

-- a part with this content, whose entries are all live
pub record IsWhole (bytes : List ℕ) (part : Part) : Type 0 where
  pub file : IsIndexFile bytes part.entries part.rows
  pub live : list_all (λ b. b) part.live ≡ true
  pub long : length part.live ≡ length part.entries

-- so many numbers, each one more than the one before it
abbrev pub numbers_from : ℕ → ℕ → List ℕ
numbers_from n zero = []
numbers_from n (suc count) = n ∷ numbers_from (suc n) count

-- what kind of fault a file has
abbrev pub IsFault : List ℕ → FileFault → Type 0
IsFault bytes faults.Old = is_old bytes ≡ true
IsFault bytes (faults.BadFile at) = (is_old bytes ≡ false) × HasFault bytes at
IsFault bytes faults.NoMemory = ⊤

abbrev pub IsPathAt : Part → ℕ → List ℕ → Type 0
IsPathAt part at path = slice_get (map (λ entry. entry.path) part.entries) at ≡ Some path

abbrev pub IsStampAt : Part → ℕ → ℕ → Type 0
IsStampAt part at stamp = slice_get (map (λ entry. entry.stamp) part.entries) at ≡ Some stamp

-- those flags stay that are set in both lists
pub record KeepsFlagged (old flags new : List Bool) : Type 0 where
  pub long : length new ≡ length old
  pub each : (k : ℕ) → get_or new k false ≡ (get_or old k false && get_or flags k false)

-- whether a live entry has an admitted key
abbrev pub has_admitted : (Category → List ℕ → Bool) → Part → ℕ → Bool
has_admitted admitted part n = get_or part.live n false && list_any (λ row. row.entry == n && admitted row.category row.key) part.rows

-- the numbers of the live entries that have an admitted key
abbrev pub answers_of : (Category → List ℕ → Bool) → Part → List ℕ
answers_of admitted part = filter (has_admitted admitted part) (numbers_from 0 (length part.entries))

-- the rows of live entries
abbrev pub live_rows : List Bool → List Row → List Row
live_rows live rows = filter (λ row. get_or live row.entry false) rows
