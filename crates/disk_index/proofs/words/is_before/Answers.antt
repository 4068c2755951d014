use Rattle.std.proofs.Common.{sym, ap, ◌∙◌}
use Rattle.std.specs.Ordering.{is_lt}
use Rattle.index_keys.proofs.Order.{before}
use Rattle.disk_index.proofs.words.is_before.Goals as goal

pub returns-in-Less : goal.returns-in-Less
returns-in-Less c = sym (ap is_lt c.in-Less.is) ∙ before c.args.left.now c.args.right.now c.cmp.result c.cmp.ensures

pub returns-in-Equal : goal.returns-in-Equal
returns-in-Equal c = sym (ap is_lt c.in-Equal.is) ∙ before c.args.left.now c.args.right.now c.cmp.result c.cmp.ensures

pub returns-in-Greater : goal.returns-in-Greater
returns-in-Greater c = sym (ap is_lt c.in-Greater.is) ∙ before c.args.left.now c.args.right.now c.cmp.result c.cmp.ensures
