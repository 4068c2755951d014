use Rattle.std.proofs.Common.{◌≡◌, Some, drop}
use Rattle.java_model.specs.Places.{lead}
use Rattle.java_model.specs.Occurrences.Occurrences.{java_rules, spot_at}
use Rattle.java_nodes.specs.Seen.{seen}
use Rattle.java_scope.specs.Spots.{spot}
use Rattle.java_scope.specs.Units.{context}
use Rattle.java_scope.proofs.places.spot_at.Given as goal

-- the rest of the place leads on
abbrev pub invariant-loop-at : goal.invariant-loop-at
invariant-loop-at l = lead (java_rules (context l.unit)) (Some (spot l.scope (seen l.node))) (drop l.at-index l.place) ≡ spot_at (context l.unit) l.tree.unit.now l.place
