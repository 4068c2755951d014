use Rattle.java_model.proofs.Lexical.Spans.{spans_rise}
use Rattle.java_model.proofs.lexical_laws.spans_rise.Goals as goal

pub returns : goal.returns
returns c = spans_rise
