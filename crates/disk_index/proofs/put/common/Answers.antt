use Rattle.java_model.specs.IndexFile.Spelling.{common}
use Rattle.disk_index.proofs.EncodeLaws.{common_ends}
use Rattle.disk_index.proofs.put.common.Goals as goal

pub returns-else-at-right-clause-value : goal.returns-else-at-right-clause-value
returns-else-at-right-clause-value c = common_ends c.args.left.now c.args.right.now c.loop-at.at (common c.args.left.now c.args.right.now) c.if-at-right.false c.loop-at.invariant.same
