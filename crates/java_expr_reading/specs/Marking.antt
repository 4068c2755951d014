-- What a table of tokens keeps ready: the shape of each, and where the run that begins behind each ends.
use Rattle.std.specs.Prelude.{◌≡◌, ◌≤◌, ◌<◌, ◌^◌, ◌+◌, ℕ, zero, suc, List, map, length, drop, slice_index}
use Rattle.java_model.specs.Grammar.Signs.{Sign}
use Rattle.java_model.specs.Grammar.Runs.{after_body}
use Rattle.java_expr_reading.specs.Shapes.{shape_of}
use Rattle.java_expr_reading.specs.declared.shape.Shape.{Shape}
use Rattle.java_expr_reading.specs.declared.shape.Shape.TheVariants as shapes
use Rattle.java_tree.specs.declared.mark.Mark.TheVariants as marks

-- from this place on, what stands behind the `}` that closes a body stands at the other place
pub record Closes (ts : List Sign) (at end : ℕ) : Type 0 where
  pub behind : drop end ts ≡ after_body (drop at ts) zero
  pub later : at ≤ end
  pub within : end ≤ length ts

-- the same at each place from one on
abbrev pub AreEndsFrom : List Sign → ℕ → List ℕ → Type 0
AreEndsFrom ts from ends = (at : ℕ) → from ≤ at → at ≤ length ts → Closes ts at (slice_index ends at)

-- Where a body ends that begins before a token: behind a `}`, behind the body that a `{` begins, else where
-- one ends that begins behind the token.
abbrev pub end_from : Shape → ℕ → List ℕ → ℕ
end_from (shapes.Mark marks.RightBrace) at ends = at + 1
end_from shapes.LeftBrace at ends = slice_index ends (slice_index ends (at + 1))
end_from _ at ends = slice_index ends (at + 1)

pub record IsMarked (ts : List Sign) (all : List Shape) (ends : List ℕ) : Type 0 where
  pub shaped : all ≡ map shape_of ts
  pub few : length ts < 2 ^ 32
  pub each_place : length ends ≡ suc (length ts)
  pub closes : AreEndsFrom ts 0 ends
