-- What the files of a store stand for: file 0 is the ready file, file 1 the state file, and each cell has a slot.
use Rattle.std.specs.Prelude.{ℕ, zero, suc, ◌+◌, ◌*◌, Bool, ◌&&◌, ◌==◌, if◌then◌else◌, List, length, take, slice_index, Option, None, Some}
use Rattle.std.specs.Str.{bytes_eq}
use Rattle.java_model.specs.StateFile.Cells.{Side, newest_in, pair_count, state_length}

-- the bytes of each file, by its number
abbrev pub Files : Type 0
Files = ℕ → List ℕ

-- the slot of a cell, where its image stands
abbrev pub slot : ℕ → ℕ → ℕ
slot pair side = 2 + 2 * pair + side

-- the first byte of file 0 is 1, and file 1 has its length
abbrev pub is_ready : Files → Bool
is_ready files = slice_index (files 0) 0 == 1 && length (files 1) == state_length

-- what is held of a container: its generation, and its image as far as the slot has it, or that it is to be indexed anew
pub record Kept : Type 0 where
  pub rebuild : Bool
  pub generation : ℕ
  pub size : ℕ
  pub image : List ℕ

-- the same with the container's name
pub record Named : Type 0 where
  pub name : List ℕ
  pub kept : Kept

-- what a pair holds by this cell
abbrev pub named_by : Files → ℕ → Side → Named
named_by files pair newest = record {
  name = newest.cell.name;
  kept = record {
    rebuild = newest.cell.rebuild;
    generation = newest.cell.generation;
    size = newest.cell.size;
    image = take newest.cell.size (files (slot pair newest.side));
  };
}

abbrev pub held_by : Files → ℕ → Option Side → Option Named
held_by files pair None = None
held_by files pair (Some newest) = Some (named_by files pair newest)

-- what a pair holds
abbrev pub held_in : Files → ℕ → Option Named
held_in files pair = held_by files pair (newest_in (files 1) pair)

-- what is held under a name, or else this
abbrev pub kept_or : List ℕ → Option Named → Option Kept → Option Kept
kept_or name None otherwise = otherwise
kept_or name (Some named) otherwise = if bytes_eq named.name name then Some named.kept else otherwise

-- what the first of so many pairs with this name holds; a later one with the same name is passed over
unfoldable pub first_named : (ℕ → Option Named) → List ℕ → ℕ → ℕ → Option Kept
first_named held name zero pair = None
first_named held name (suc count) pair = kept_or name (held pair) (first_named held name count (suc pair))

-- what is held of a container, if anything
abbrev pub recovered : Files → List ℕ → Option Kept
recovered files name = if is_ready files then first_named (held_in files) name pair_count 0 else None
