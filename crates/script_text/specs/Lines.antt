-- The lines that were read of a script.
use Rattle.std.specs.Prelude.{◌≡◌, ℕ, List}
use Rattle.std.specs.List.Sorted.{IsPermutation}
use Rattle.java_model.specs.Documents.{AreInOrder}
use Rattle.script_text.specs.declared.script.Script.{Script}
use Rattle.script_text.specs.Scripts as scripts
use Rattle.script_text.specs.Spelling.{IsScript}
use Rattle.script_text.specs.Views.{documents_of}

-- the bytes are a script
abbrev pub IsAccepted : List ℕ → Type 0
IsAccepted bytes = (script : scripts.Script) × IsScript bytes script

-- the lines of the script that these bytes are, with its documents in order
pub record HasLines (bytes : List ℕ) (lines : Script) : Type 0 where
  pub script : scripts.Script
  pub is_script : IsScript bytes script
  pub same : IsPermutation script.docs (documents_of lines.docs.items)
  pub in_order : AreInOrder (documents_of lines.docs.items)
  pub searches : script.searches ≡ lines.searches.items
