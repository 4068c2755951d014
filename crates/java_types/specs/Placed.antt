-- The outline of a document among the types of an environment.
use Rattle.std.specs.Prelude.{ℕ, ◌+◌, cond, List, [], ◌∷◌, Option, Some, None, length}
use Rattle.java_tree.specs.declared.outline.Outline.{Outline}
use Rattle.java_tree.specs.declared.types.DocPath.{DocPath}
use Rattle.java_model.specs.Names.Environments.{EnvDocument, same_path}

-- an outline, and the number that its first type has in the environment
pub record Placed : Type 0 where
  pub outline : Outline
  pub first : ℕ

-- the outline of the document with this path, among the documents from a number on
abbrev pub placed_among : DocPath → ℕ → List EnvDocument → Option Placed
placed_among path first [] = None
placed_among path first (d ∷ ds) =
    cond (same_path d.path path) (Some (record { outline = d.outline; first = first })) (placed_among path (first + length d.outline.types) ds)
