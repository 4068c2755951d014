-- Why nothing is saved, and where a container's next cell is to be written.
use Rattle.std.specs.Prelude.{◌≡◌, ℕ, ◌+◌, ◌-◌, ◌<◌, ◌≤◌, List, Option, None, Some, Result, Ok, Err}
use Rattle.java_model.specs.StateFile.Cells.{Cell as Says, pair_count, longest_image, greatest_generation}
use Rattle.index_states.specs.declared.cell.Cell.{Cell}
use Rattle.index_store.specs.Kept.{Acks, acknowledged, Targets}
use Rattle.index_store.specs.Table.{next_generation, AllHeld}
use Rattle.index_store.specs.declared.fault.SaveFault.{SaveFault}
use Rattle.index_store.specs.declared.fault.SaveFault.TheVariants.{TooLong, Full, Worn, Disk, NoMemory}
use Rattle.index_store.specs.declared.place.Place.{Place}

-- the container isn't held, and all pairs are
abbrev pub IsFull : Acks → List ℕ → Type 0
IsFull acks name = (acknowledged acks name ≡ None) × AllHeld acks

-- the container has had its last generation
abbrev pub IsWorn : Acks → List ℕ → Type 0
IsWorn acks name = greatest_generation < next_generation (acknowledged acks name)

-- the container has a pair and a generation to come
pub record HasPlace (acks : Acks) (name : List ℕ) : Type 0 where
  pub pair : IsFull acks name → ⊥
  pub generation : next_generation (acknowledged acks name) ≤ greatest_generation

-- what a mark answers
abbrev pub TellsMark : Acks → List ℕ → Result ℕ SaveFault → Type 0
TellsMark acks name (Ok generation) = (generation ≡ next_generation (acknowledged acks name)) × HasPlace acks name
TellsMark acks name (Err (TooLong n)) = ⊥
TellsMark acks name (Err (Full n)) = (n ≡ pair_count) × IsFull acks name
TellsMark acks name (Err Worn) = IsWorn acks name
TellsMark acks name (Err Disk) = HasPlace acks name
TellsMark acks name (Err NoMemory) = HasPlace acks name

-- what a save of an image of so many bytes answers
abbrev pub TellsSave : Acks → List ℕ → ℕ → Result ℕ SaveFault → Type 0
TellsSave acks name size (Err (TooLong n)) = (n ≡ size) × (longest_image < size)
TellsSave acks name size (Err (Full n)) = (size ≤ longest_image) × TellsMark acks name (Err (Full n))
TellsSave acks name size (Err Worn) = (size ≤ longest_image) × TellsMark acks name (Err Worn)
TellsSave acks name size (Err Disk) = (size ≤ longest_image) × TellsMark acks name (Err Disk)
TellsSave acks name size (Err NoMemory) = (size ≤ longest_image) × TellsMark acks name (Err NoMemory)
TellsSave acks name size (Ok generation) = (size ≤ longest_image) × TellsMark acks name (Ok generation)

-- a cell of this generation under this name is the container's next
pub record IsPlace (acks : Acks) (name : List ℕ) (place : Place) : Type 0 where
  pub two : place.side < 2
  pub low : place.pair < pair_count
  pub begun : 1 ≤ place.generation
  pub last : place.generation ≤ greatest_generation
  pub generation : place.generation ≡ next_generation (acknowledged acks name)
  pub has : HasPlace acks name
  pub target : (says : Says) → says.name ≡ name → says.generation ≡ place.generation
      → Targets acks place.pair place.side says (acks place.pair)

abbrev pub Chooses : Acks → List ℕ → Result Place SaveFault → Type 0
Chooses acks name (Ok place) = IsPlace acks name place
Chooses acks name (Err (TooLong n)) = ⊥
Chooses acks name (Err (Full n)) = (n ≡ pair_count) × IsFull acks name
Chooses acks name (Err Worn) = IsWorn acks name
Chooses acks name (Err Disk) = ⊥
Chooses acks name (Err NoMemory) = ⊥

pub record IsNext (pair : ℕ) (cell : Cell) (place : Place) : Type 0 where
  pub same : place.pair ≡ pair
  pub two : place.side < 2
  pub other : cell.side < 2 → place.side ≡ 1 - cell.side
  pub next : place.generation ≡ cell.generation + 1
  pub below : cell.generation < greatest_generation

-- the place of the cell after an entry's
abbrev pub Follows : ℕ → Option Cell → Result Place SaveFault → Type 0
Follows pair None answer = ⊥
Follows pair (Some cell) (Ok place) = IsNext pair cell place
Follows pair (Some cell) (Err fault) = (fault ≡ Worn) × (greatest_generation ≤ cell.generation)
