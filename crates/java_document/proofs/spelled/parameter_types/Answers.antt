use Rattle.std.proofs.Common.{rules}
use Rattle.java_model.specs.Outlines.{spelled_type}
use Rattle.java_document.proofs.Lists.{map_next}
use Rattle.java_document.proofs.spelled.parameter_types.Goals as goal

pub loop-parameter-preserved : goal.loop-parameter-preserved
loop-parameter-preserved c =
    search (rules, map_next (λ p. spelled_type p.of p.dims) c.args.parameters.now c.loop-parameter.parameter-index c.parameter-item.result)
