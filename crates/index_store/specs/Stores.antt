-- A store that keeps what is acknowledged.
use Rattle.std.specs.Prelude.{◌≡◌, ◌≢◌, ◌⊎◌, ℕ, true, false, List, [], ◌∷◌, length, Option, Some}
use Rattle.std.specs.List.{Contains}
use Rattle.java_model.specs.StateFile.Recovered.{Files, Kept, Named, recovered}
use Rattle.jx_disk.specs.Disk.{Image}
use Rattle.index_store.specs.Kept.{Acks, AllFit, acknowledged}
use Rattle.index_store.specs.Table.{IsTable, next_generation}
use Rattle.index_store.specs.declared.store.Store.{Store}

-- The table tells what is acknowledged, and each image that a crash may leave has it.
pub record Keeps {D : Type 0} (may_leave : D → Image → Type 0) (acks : Acks) (store : Store D) : Type 0 where
  pub table : IsTable acks store.table.entries.items
  pub fits : AllFit acks (may_leave store.disk)

-- what the next save of a container keeps of it, with this image
abbrev pub next_image : Acks → List ℕ → List ℕ → Kept
next_image acks name image = record {
  rebuild = false;
  generation = next_generation (acknowledged acks name);
  size = length image;
  image = image;
}

-- what the next mark of a container keeps of it
abbrev pub next_mark : Acks → List ℕ → Kept
next_mark acks name = record { rebuild = true; generation = next_generation (acknowledged acks name); size = 0; image = [] }

-- what is recovered under a name is the whole of a save or mark that was begun after what is acknowledged
abbrev pub IsBegun : Acks → List Named → List ℕ → Option Kept → Type 0
IsBegun acks begun name found =
    (kept : Kept) × (found ≡ Some kept) × Contains begun (record { name = name; kept = kept })
    × (kept.generation ≡ next_generation (acknowledged acks name))

-- An image recovers of each container what is acknowledged, or the whole of a later save or mark that was begun.
abbrev pub IsWhole : Acks → List Named → Files → Type 0
IsWhole acks begun image = (name : List ℕ) → (recovered image name ≡ acknowledged acks name) ⊎ IsBegun acks begun name (recovered image name)

-- A store in a session that began these saves and marks: it keeps what is acknowledged, and a crash leaves it whole.
pub record InSession {D : Type 0} (may_leave : D → Image → Type 0) (acks : Acks) (begun : List Named) (store : Store D) : Type 0 where
  pub keeps : Keeps may_leave acks store
  pub whole : (image : Image) → may_leave store.disk image → IsWhole acks begun image

-- This is acknowledged of a container, and of each other what was.
pub record SavedAs {D : Type 0} (may_leave : D → Image → Type 0) (acks : Acks) (begun : List Named)
    (name : List ℕ) (kept : Kept) (store : Store D) : Type 0 where
  pub later : Acks
  pub session : InSession may_leave later begun store
  pub anew : acknowledged later name ≡ Some kept
  pub others : (other : List ℕ) → other ≢ name → acknowledged later other ≡ acknowledged acks other

-- with one save or mark more
abbrev pub beginning : List ℕ → Kept → List Named → List Named
beginning name kept begun = record { name = name; kept = kept } ∷ begun
