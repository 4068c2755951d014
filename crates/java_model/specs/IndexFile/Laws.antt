-- Laws of index files.
use Rattle.std.specs.Prelude.{◌≡◌, ◌⊎◌, ℕ, ◌<◌, List, slice_index}
use Rattle.java_tree.specs.declared.index.IndexEntry.{IndexEntry}
use Rattle.java_tree.specs.declared.index.Row.{Row}
use Rattle.java_model.specs.IndexFile.Spelling.{IsIndexFile}
use Rattle.java_model.specs.IndexFile.Reading.{HasFault}

-- a file spells one content at most
abbrev pub FilesAreRead : Type 0
FilesAreRead = (bytes : List ℕ) (entries others : List IndexEntry) (rows more : List Row)
    → IsIndexFile bytes entries rows → IsIndexFile bytes others more → (entries ≡ others) × (rows ≡ more)

-- a content has one file
abbrev pub FilesAreUnique : Type 0
FilesAreUnique = (bytes others : List ℕ) (entries : List IndexEntry) (rows : List Row)
    → IsIndexFile bytes entries rows → IsIndexFile others entries rows → bytes ≡ others

-- bytes are a file or have a fault
abbrev pub FilesOrFault : Type 0
FilesOrFault = (bytes : List ℕ) → ((i : ℕ) → slice_index bytes i < 256)
    → ((entries : List IndexEntry) × (rows : List Row) × IsIndexFile bytes entries rows) ⊎ ((at : ℕ) × HasFault bytes at)

-- and never both
abbrev pub FaultsExcludeFiles : Type 0
FaultsExcludeFiles = (bytes : List ℕ) (at : ℕ) (entries : List IndexEntry) (rows : List Row) → HasFault bytes at → IsIndexFile bytes entries rows → ⊥
