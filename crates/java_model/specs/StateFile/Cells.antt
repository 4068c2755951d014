-- The cells of the state file. Numbers are big-endian.
use Rattle.std.specs.Prelude.{ℕ, ◌+◌, ◌*◌, ◌^◌, Bool, ◌&&◌, ◌||◌, nat_lt, nat_le, ◌==◌, if◌then◌else◌, List, ◌∷◌, ◌++◌, ◌-◌, length, replicate, take, drop, slice_index, Option, None, Some}
use Rattle.std.specs.List.{list_all}
use Rattle.std.specs.Str.{is_utf8}
use Rattle.byteorder.specs.Endian.{big_number, big_bytes}
use Rattle.java_tree.specs.Names.{is_container}

-- there are so many pairs of two cells, each of so many bytes
abbrev pub pair_count : ℕ
pair_count = 256

abbrev pub cell_length : ℕ
cell_length = 256

abbrev pub state_length : ℕ
state_length = pair_count * (2 * cell_length)

-- 64 MiB
abbrev pub longest_image : ℕ
longest_image = 64 * 2 ^ 20

abbrev pub greatest_generation : ℕ
greatest_generation = 2 ^ 62

-- what a cell says: that its container is to be indexed anew, or how long its image is
pub record Cell : Type 0 where
  pub rebuild : Bool
  pub generation : ℕ
  pub size : ℕ
  pub name : List ℕ

-- The gate, 1 where it is open; the kind, 1 for an image and 2 for a rebuild; the generation; the image's length;
-- the name's length; the name; zeros.
unfoldable pub cell_in : List ℕ → Cell
cell_in bytes = record {
  rebuild = slice_index bytes 1 == 2;
  generation = big_number 8 (drop 2 bytes);
  size = big_number 8 (drop 10 bytes);
  name = take (slice_index bytes 18) (drop 19 bytes);
}

abbrev pub is_sound : Cell → Bool
is_sound cell =
    nat_le 1 cell.generation && nat_le cell.generation greatest_generation
    && (if cell.rebuild then cell.size == 0 else nat_le cell.size longest_image) && is_utf8 cell.name && is_container cell.name

-- behind an open gate such a cell counts
unfoldable pub is_whole : List ℕ → Bool
is_whole bytes =
    (slice_index bytes 1 == 1 || slice_index bytes 1 == 2) && is_sound (cell_in bytes)
    && list_all (λ b. b == 0) (drop (19 + slice_index bytes 18) bytes)

-- what these bytes of a cell say, where it counts
unfoldable pub counting : List ℕ → Option Cell
counting bytes = if slice_index bytes 0 == 1 && is_whole bytes then Some (cell_in bytes) else None

-- where a cell begins
abbrev pub cell_at : ℕ → ℕ → ℕ
cell_at pair side = 512 * pair + 256 * side

abbrev pub cell_bytes : ℕ → ℕ → List ℕ → List ℕ
cell_bytes pair side state = take cell_length (drop (cell_at pair side) state)

-- a cell of a pair, with its side
pub record Side : Type 0 where
  pub side : ℕ
  pub cell : Cell

-- the counting cell of the greater generation, side 0 on a tie
abbrev pub newest : Option Cell → Option Cell → Option Side
newest None None = None
newest (Some first) None = Some (record { side = 0; cell = first })
newest None (Some second) = Some (record { side = 1; cell = second })
newest (Some first) (Some second) =
    if nat_lt first.generation second.generation then Some (record { side = 1; cell = second }) else Some (record { side = 0; cell = first })

-- the newest cell of a pair; a pair that has one is held
abbrev pub newest_in : List ℕ → ℕ → Option Side
newest_in state pair = newest (counting (cell_bytes pair 0 state)) (counting (cell_bytes pair 1 state))

-- the bytes of a cell after its gate
abbrev pub spelled : Bool → ℕ → ℕ → List ℕ → List ℕ
spelled rebuild generation size name =
    (if rebuild then 2 else 1) ∷ (big_bytes 8 generation ++ (big_bytes 8 size ++ (length name ∷ (name ++ replicate (237 - length name) 0))))
