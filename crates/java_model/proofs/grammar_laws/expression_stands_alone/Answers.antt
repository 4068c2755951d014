use Rattle.java_model.proofs.Grammar.Runs.{expr_anonymous, alone}
use Rattle.java_model.proofs.grammar_laws.expression_stands_alone.Goals as goal

pub returns : goal.returns
returns c = λ d x a s t h g. alone _ s t (expr_anonymous d x h a) g
