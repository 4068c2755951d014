-- What is acknowledged of each container, and the files that a crash may leave of a store.
use Rattle.std.specs.Prelude.{◌≡◌, ◌≢◌, ◌⊎◌, ℕ, ◌+◌, ◌-◌, ◌<◌, ◌≤◌, true}
use Rattle.std.specs.Prelude.{List, take, ⊤, Option, None, Some, IsSome, if◌then◌else◌, ◌==◌}
use Rattle.java_model.specs.StateFile.Cells.{Cell, counting, cell_bytes, pair_count}
use Rattle.java_model.specs.StateFile.Recovered.{Files, Kept, Named, slot, is_ready, first_named, recovered}

-- what was acknowledged of a pair: its cell, and the image in the cell's slot
pub record Acked : Type 0 where
  pub side : ℕ
  pub cell : Cell
  pub image : List ℕ

abbrev pub acked_as : ℕ → Cell → List ℕ → Acked
acked_as side cell image = record { side = side; cell = cell; image = image }

-- of each pair
abbrev pub Acks : Type 0
Acks = ℕ → Option Acked

abbrev pub kept_of : Acked → Kept
kept_of a = record { rebuild = a.cell.rebuild; generation = a.cell.generation; size = a.cell.size; image = a.image }

abbrev pub named_of : Acked → Named
named_of a = record { name = a.cell.name; kept = kept_of a }

abbrev pub name_option : Option Acked → Option Named
name_option None = None
name_option (Some a) = Some (named_of a)

-- what is acknowledged of a container
abbrev pub acknowledged : Acks → List ℕ → Option Kept
acknowledged acks name = first_named (λ pair. name_option (acks pair)) name pair_count 0

-- what a pair holds isn't under this name
abbrev pub HasNot : List ℕ → Option Named → Type 0
HasNot name None = ⊤
HasNot name (Some named) = named.name ≢ name

-- no pair is acknowledged under this name
abbrev pub IsNew : Acks → List ℕ → Type 0
IsNew acks name = (pair : ℕ) → pair < pair_count → HasNot name (name_option (acks pair))

-- each pair before this one is held
abbrev pub IsFirstFree : Acks → ℕ → Type 0
IsFirstFree acks pair = (before : ℕ) → before < pair → IsSome (acks before)

-- The other cell of a held pair doesn't count, or loses against the acknowledged one, or is the next of this container.
abbrev pub Yields : Acked → Option Cell → Type 0
Yields a None = ⊤
Yields a (Some cell) =
    (cell.generation + a.side ≤ a.cell.generation) ⊎ ((cell.generation ≡ a.cell.generation + 1) × (cell.name ≡ a.cell.name))

-- The first cell of a free pair doesn't count, or is the first of a new container in the first free pair.
abbrev pub Begins : Acks → ℕ → Option Cell → Type 0
Begins acks pair None = ⊤
Begins acks pair (Some cell) = IsFirstFree acks pair × (cell.generation ≡ 1) × IsNew acks cell.name

pub record HoldsAcked (files : Files) (pair : ℕ) (a : Acked) : Type 0 where
  pub two : a.side < 2
  pub cell : counting (cell_bytes pair a.side (files 1)) ≡ Some a.cell
  pub image : take a.cell.size (files (slot pair a.side)) ≡ a.image
  pub other : Yields a (counting (cell_bytes pair (1 - a.side) (files 1)))

pub record IsFreeIn (files : Files) (acks : Acks) (pair : ℕ) : Type 0 where
  pub first : Begins acks pair (counting (cell_bytes pair 0 (files 1)))
  pub second : counting (cell_bytes pair 1 (files 1)) ≡ None

abbrev pub FitsPair : Files → Acks → ℕ → Option Acked → Type 0
FitsPair files acks pair None = IsFreeIn files acks pair
FitsPair files acks pair (Some a) = HoldsAcked files pair a

-- the files have what is acknowledged, and beside it at most a later save that isn't
pub record Fits (acks : Acks) (files : Files) : Type 0 where
  pub ready : is_ready files ≡ true
  pub pairs : (pair : ℕ) → pair < pair_count → FitsPair files acks pair (acks pair)

-- A cell is to be written for a container: on the other side of the first pair that it holds, with the next generation,
-- or else on side 0 of the first free pair.
pub record TargetsHeld (acks : Acks) (pair side : ℕ) (cell : Cell) (a : Acked) : Type 0 where
  pub two : a.side < 2
  pub side_is : side ≡ 1 - a.side
  pub name_is : cell.name ≡ a.cell.name
  pub next : cell.generation ≡ a.cell.generation + 1
  pub first : (before : ℕ) → before < pair → HasNot cell.name (name_option (acks before))

pub record TargetsFree (acks : Acks) (pair side : ℕ) (cell : Cell) : Type 0 where
  pub side_is : side ≡ 0
  pub next : cell.generation ≡ 1
  pub first : IsFirstFree acks pair
  pub new : IsNew acks cell.name

abbrev pub Targets : Acks → ℕ → ℕ → Cell → Option Acked → Type 0
Targets acks pair side cell None = TargetsFree acks pair side cell
Targets acks pair side cell (Some a) = TargetsHeld acks pair side cell a

-- An image recovers each container as it is acknowledged, or as an outcome before did, or this container as it is saved.
abbrev pub Recovers : Acks → (Files → Type 0) → List ℕ → Kept → Files → Type 0
Recovers acks outcomes container kept image =
    (name : List ℕ) → (recovered image name ≡ acknowledged acks name)
    ⊎ (((was : Files) × outcomes was × (recovered image name ≡ recovered was name))
    ⊎ ((name ≡ container) × (recovered image name ≡ Some kept)))

-- all outcomes fit
abbrev pub AllFit : Acks → (Files → Type 0) → Type 0
AllFit acks outcomes = (image : Files) → outcomes image → Fits acks image

-- with one pair acknowledged anew
abbrev pub acknowledging : Acks → ℕ → Acked → Acks
acknowledging acks pair a = λ q. if q == pair then Some a else acks q

-- all outcomes recover this of a container
abbrev pub AllHave : Kept → List ℕ → (Files → Type 0) → Type 0
AllHave kept name outcomes = (image : Files) → outcomes image → recovered image name ≡ Some kept

-- all outcomes have one pair acknowledged anew, and recover that of its container
abbrev pub AllSaved : Acks → ℕ → Acked → (Files → Type 0) → Type 0
AllSaved acks pair a outcomes = AllFit (acknowledging acks pair a) outcomes × AllHave (kept_of a) a.cell.name outcomes
