use Rattle.java_model.proofs.Grammar.Ifs.{no_short_before_else}
use Rattle.java_model.proofs.grammar_laws.no_short_if_before_else.Goals as goal

pub returns : goal.returns
returns c = no_short_before_else
