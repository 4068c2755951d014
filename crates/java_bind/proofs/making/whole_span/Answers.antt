use Rattle.java_bind.proofs.Spans.{ends_span}
use Rattle.java_bind.proofs.making.whole_span.Goals as goal

pub returns-in-len2-up : goal.returns-in-len2-up
returns-in-len2-up c = ends_span c.args.name.now c.first-item.result c.last-item.result c.in-len2-up.len_at_least c.first-item.is c.last-item.is
