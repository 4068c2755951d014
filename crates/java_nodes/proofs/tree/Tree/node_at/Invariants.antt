use Rattle.std.proofs.Common.{◌≡◌, option_map, drop}
use Rattle.java_model.specs.Places.{lead}
use Rattle.java_nodes.specs.Leading.{node_rules, node_at}
use Rattle.java_nodes.specs.Seen.{seen}
use Rattle.java_nodes.proofs.tree.Tree.node_at.Given as goal

-- the rest of the place leads on
abbrev pub invariant-loop-at : goal.invariant-loop-at
invariant-loop-at l = node_at l.self.unit.now l.place ≡ lead (node_rules l.self.unit.now.types) (option_map seen l.node) (drop l.at-index l.place)
