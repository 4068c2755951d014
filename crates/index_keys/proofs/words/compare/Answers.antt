use Rattle.java_tree.specs.Keys.{word_of}
use Rattle.index_keys.proofs.Order.{before}
use Rattle.index_keys.proofs.words.compare.Goals as goal

pub returns-clause-before : goal.returns-clause-before
returns-clause-before c = before (word_of c.args.left.now) (word_of c.args.right.now) c.order.result c.order.ensures
