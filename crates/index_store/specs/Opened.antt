-- What reopening finds of each container, and what is acknowledged after it.
use Rattle.std.specs.Prelude.{◌≡◌, ◌≢◌, ◌⊎◌, ℕ, ◌+◌, ◌<◌, ◌≤◌, true}
use Rattle.std.specs.Prelude.{false, List, length, take, get_or, Option, None, Some}
use Rattle.std.specs.List.{All, AllPairs}
use Rattle.java_model.specs.IndexFile.Reading.{HasFault, is_old}
use Rattle.java_model.specs.StateFile.Recovered.{Files, Kept, slot, is_ready, recovered}
use Rattle.jx_disk.specs.Disk.{Image}
use Rattle.disk_index.specs.Part.{IsWhole}
use Rattle.index_states.specs.declared.cell.Cell.{Cell}
use Rattle.index_states.specs.Loaded.{AreNewest}
use Rattle.index_store.specs.Kept.{Acks, acknowledged, AllFit}
use Rattle.index_store.specs.Table.{IsNamed, IsTable}
use Rattle.index_store.specs.declared.found.Found.{Found}
use Rattle.index_store.specs.declared.found.Found.TheVariants.{Saved, Marked, Damaged, Old}

-- the image has as many bytes as its cell says
abbrev pub HasImage : Kept → Type 0
HasImage kept = (kept.rebuild ≡ false) × (length kept.image ≡ kept.size)

-- the image is too short, or has its first faulty field here
abbrev pub IsDamaged : Kept → ℕ → Type 0
IsDamaged kept at =
    ((kept.rebuild ≡ false) × (length kept.image < kept.size) × (at ≡ length kept.image))
    ⊎ (HasImage kept × (is_old kept.image ≡ false) × HasFault kept.image at)

-- what is found of a container, where this is held of it
abbrev pub IsFound : Kept → Found → Type 0
IsFound kept (Saved generation part) =
    (generation ≡ kept.generation) × HasImage kept × (is_old kept.image ≡ false) × IsWhole kept.image part
IsFound kept (Marked generation) = (generation ≡ kept.generation) × (kept.rebuild ≡ true)
IsFound kept (Damaged generation at) = (generation ≡ kept.generation) × IsDamaged kept at
IsFound kept (Old generation) = (generation ≡ kept.generation) × HasImage kept × (is_old kept.image ≡ true)

-- a container is held, and found as what is held of it
abbrev pub IsFoundIn : Files → List ℕ × Found → Type 0
IsFoundIn files found = (kept : Kept) × (recovered files found.0 ≡ Some kept) × IsFound kept found.1

-- What is found of files: each container that is listed is held, is listed once, and one that isn't listed is held nowhere.
pub record Finds (files : Files) (found : List (List ℕ × Found)) : Type 0 where
  pub each : All (IsFoundIn files) found
  pub once : AllPairs (λ f g. f.0 ≢ g.0) found
  pub others : (name : List ℕ) → All (λ f. f.0 ≢ name) found → recovered files name ≡ None

-- an image recovers of each container what these files do
abbrev pub RecoversAs : Files → Files → Type 0
RecoversAs files image = (name : List ℕ) → recovered image name ≡ recovered files name

-- what is acknowledged of each container is what these files recover of it
abbrev pub Acknowledges : Acks → Files → Type 0
Acknowledges acks files = (name : List ℕ) → acknowledged acks name ≡ recovered files name

-- a crash might have left this at the start, or it recovers of each container what these files do
abbrev pub MayOpen : (Image → Type 0) → Files → Image → Type 0
MayOpen outcomes files image = outcomes image ⊎ RecoversAs files image

-- a table of what these files recover, which each image that a crash may leave has, and recovers
abbrev pub OpensAs : {D : Type 0} → (D → Image → Type 0) → Files → List (Option Cell) → D → Type 0
OpensAs may_leave files table disk = (acks : Acks) × IsTable acks table × AllFit acks (may_leave disk) × Acknowledges acks files
    × ((image : Image) → may_leave disk image → RecoversAs files image)

-- a table of the newest counting cells of files that are ready
pub record AreTold (files : Files) (table : List (Option Cell)) : Type 0 where
  pub ready : is_ready files ≡ true
  pub cells : AreNewest (files 1) table

-- what is held of a cell's container
abbrev pub kept_by : Files → Cell → Kept
kept_by files cell = record {
  rebuild = cell.rebuild;
  generation = cell.generation;
  size = cell.length;
  image = take cell.length (files (slot cell.pair cell.side));
}

-- a pair is the first that a container holds, and this is found of it
pub record IsListed (files : Files) (table : List (Option Cell)) (pair : ℕ) (found : List ℕ × Found) : Type 0 where
  pub cell : Cell
  pub entry : get_or table pair None ≡ Some cell
  pub name : found.0 ≡ cell.name
  pub first : (before : ℕ) → before < pair → ¬ IsNamed (get_or table before None) cell.name
  pub is : IsFound (kept_by files cell) found.1

-- what is found of the pairs below one
pub record FindsBelow (files : Files) (table : List (Option Cell)) (count : ℕ) (found : List (List ℕ × Found)) : Type 0 where
  pub each : All (λ f. (pair : ℕ) × (pair < count) × IsListed files table pair f) found
  pub once : AllPairs (λ f g. f.0 ≢ g.0) found
  pub whole : (pair : ℕ) (name : List ℕ) → pair < count → IsNamed (get_or table pair None) name → ¬ All (λ f. f.0 ≢ name) found

-- From the end of a run's first call on, a crash leaves only what has P.
pub record LeavesFrom {D : Type 0} (moment : D → ℕ) (left_since : D → ℕ → Image → Type 0) (old new : D)
    (P : Image → Type 0) : Type 0 where
  pub since : ℕ
  pub after : moment old ≤ since
  -- one call is at most one moment more, so the first has ended no later than that
  pub soon : since ≤ moment old + 1
  pub within : since ≤ moment new
  pub each : (image : Image) → left_since new since image → P image
