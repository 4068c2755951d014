-- The table of a store: for each pair the cell that was acknowledged.
use Rattle.std.specs.Prelude.{◌≡◌, ℕ, ◌+◌, ◌<◌, List, length, get_or, ⊤, Option, None, Some, IsSome}
use Rattle.java_model.specs.StateFile.Cells.{pair_count}
use Rattle.java_model.specs.StateFile.Recovered.{Kept}
use Rattle.index_states.specs.declared.cell.Cell.{Cell}
use Rattle.index_states.specs.Cells.{says_of}
use Rattle.index_store.specs.Kept.{Acked, Acks}

abbrev pub Matches : Option Acked → Option Cell → Type 0
Matches None None = ⊤
Matches None (Some cell) = ⊥
Matches (Some a) None = ⊥
Matches (Some a) (Some cell) = (a.side ≡ cell.side) × (a.cell ≡ says_of cell) × (cell.side < 2)

pub record IsTable (acks : Acks) (table : List (Option Cell)) : Type 0 where
  pub long : length table ≡ pair_count
  pub entries : (pair : ℕ) → pair < pair_count → Matches (acks pair) (get_or table pair None)

-- an entry is that of a container
abbrev pub IsNamed : Option Cell → List ℕ → Type 0
IsNamed None name = ⊥
IsNamed (Some cell) name = cell.name ≡ name

-- the generation after that which is acknowledged
abbrev pub next_generation : Option Kept → ℕ
next_generation None = 1
next_generation (Some kept) = kept.generation + 1

-- each pair is held
abbrev pub AllHeld : Acks → Type 0
AllHeld acks = (pair : ℕ) → pair < pair_count → IsSome (acks pair)
