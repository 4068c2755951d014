-- What the program answers to the bytes of a script.
use Rattle.std.specs.Prelude.{◌≡◌, ℕ, List}
use Rattle.script_text.specs.Replies.{Output, output_text}
use Rattle.script_text.specs.Scripts.{Script}
use Rattle.script_text.specs.Spelling.{IsScript}
use Rattle.search_main.specs.Legal.{IsLegal}

-- the text is a legal output of the script that these bytes are
pub record AnswersScript (bytes text : List ℕ) : Type 0 where
  pub script : Script
  pub output : Output
  pub is_script : IsScript bytes script
  pub legal : IsLegal script output
  pub printed : text ≡ output_text output
