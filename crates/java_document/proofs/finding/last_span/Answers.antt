use Rattle.std.proofs.Common.{rules}
use Rattle.java_model.specs.Outlines.{no_span}
use Rattle.java_document.proofs.Lists.{last_span_at}
use Rattle.java_document.proofs.finding.last_span.Goals as goal

pub loop-ident-preserved : goal.loop-ident-preserved
loop-ident-preserved c = search (rules, last_span_at no_span c.ident-item.result c.args.name.now c.loop-ident.ident-index)
