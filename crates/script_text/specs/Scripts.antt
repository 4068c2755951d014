-- What a script says.
use Rattle.std.specs.Prelude.{List}
use Rattle.java_model.specs.Documents.{Document}
use Rattle.script_text.specs.declared.script.Search.{Search}

-- the opening documents, and the commands
pub record Script : Type 0 where
  pub docs : List Document
  pub searches : List Search
