use Rattle.std.proofs.Common.{rules, refl, get_or, option_map}
use Rattle.java_nodes.specs.Leading.{node_at}
use Rattle.java_nodes.specs.Seen.{seen}
use Rattle.java_nodes.proofs.Leading.{lead_next}
use Rattle.java_nodes.proofs.tree.Tree.node_at.Goals as goal

pub loop-at-preserved : goal.loop-at-preserved
loop-at-preserved c =
    lead_next c.args.self.now.unit.now.types c.args.place.now c.loop-at.at-index (get_or c.args.place.now c.loop-at.at-index 0)
    (node_at c.args.self.now.unit.now c.args.place.now) (option_map seen c.loop-at.node) (option_map seen c.next-node.result)
    (search rules) refl c.loop-at.invariant c.next-node.ensures
