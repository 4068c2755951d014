-- What is loaded of a store's state file.
use Rattle.std.specs.Prelude.{◌≡◌, ℕ, zero, suc, ◌<◌, Bool, true, false, List, length, get_or, Option, None, Some}
use Rattle.java_model.specs.StateFile.Cells.{Side, newest_in, pair_count, cell_in, is_whole}
use Rattle.java_model.specs.StateFile.Recovered.{Files, is_ready}
use Rattle.index_states.specs.Cells.{says_of}
use Rattle.index_states.specs.declared.cell.Cell.{Cell}
use Rattle.index_states.specs.declared.states.States.{States}

-- a cell of this pair is the newest one, and there is none where the pair has none
abbrev pub IsNewest : ℕ → Option Cell → Option Side → Type 0
IsNewest pair None newest = newest ≡ None
IsNewest pair (Some cell) newest = (cell.pair ≡ pair) × (newest ≡ Some (record { side = cell.side; cell = says_of cell }))

-- the side of the newest cell, of a pair whose cells have these bytes
abbrev pub IsSide : List ℕ → List ℕ → Option ℕ → Option Side → Type 0
IsSide first second None newest = newest ≡ None
IsSide first second (Some zero) newest = (newest ≡ Some (record { side = 0; cell = cell_in first })) × (is_whole first ≡ true)
IsSide first second (Some (suc side)) newest = (newest ≡ Some (record { side = 1; cell = cell_in second })) × (is_whole second ≡ true)

-- of each pair below a number a cell
pub record EachBelow (P : ℕ → Option Cell → Type 0) (count : ℕ) (cells : List (Option Cell)) : Type 0 where
  pub long : length cells ≡ count
  pub each : (pair : ℕ) → pair < count → P pair (get_or cells pair None)

-- of each pair its newest counting cell
abbrev pub AreNewest : List ℕ → List (Option Cell) → Type 0
AreNewest state cells = EachBelow (λ pair cell. IsNewest pair cell (newest_in state pair)) pair_count cells

-- no pair is held
abbrev pub AreNone : List (Option Cell) → Type 0
AreNone cells = EachBelow (λ pair cell. cell ≡ None) pair_count cells

abbrev pub HasCells : Bool → List ℕ → List (Option Cell) → Type 0
HasCells true state cells = AreNewest state cells
HasCells false state cells = AreNone cells

-- what is told of files: whether they are ready, and the newest counting cells of ready ones
pub record Tells (files : Files) (states : States) : Type 0 where
  pub ready : states.ready ≡ is_ready files
  pub cells : HasCells states.ready (files 1) states.cells.items
