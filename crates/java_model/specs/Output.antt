-- What a script is answered with.
use Rattle.std.specs.Prelude.{ℕ, List}
use Rattle.java_tree.specs.declared.occurrence.Match.{Match}
use Rattle.java_model.specs.Documents.{Document}

-- an accepted edit, by its place in the journal and the line of its command
pub record Entry : Type 0 where
  pub place : ℕ
  pub line : ℕ

-- the reply to a search: its matches at a version, and how many documents were read, were read though
-- their index had not come to them, and were skipped
pub record Report : Type 0 where
  pub line : ℕ
  pub version : ℕ
  pub matches : List Match
  pub resolved : ℕ
  pub newer : ℕ
  pub skipped : List Document
