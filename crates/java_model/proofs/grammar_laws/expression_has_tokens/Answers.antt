use Rattle.java_model.proofs.Grammar.NonEmpty.{expr_has_tokens}
use Rattle.java_model.proofs.grammar_laws.expression_has_tokens.Goals as goal

pub returns : goal.returns
returns c = expr_has_tokens
