use Rattle.std.proofs.Common.{rules, [], Some, None, option_map, get_or, drop, ◌+◌, refl, sym, ap, ◌∙◌}
use Rattle.java_model.specs.Places.{lead}
use Rattle.java_model.specs.Occurrences.Occurrences.{java_rules}
use Rattle.java_nodes.specs.Seen.{seen}
use Rattle.java_scope.specs.Spots.{spot, spot_of}
use Rattle.java_scope.specs.Units.{context}
use Rattle.java_scope.proofs.Spots.{leads_on, leads_nowhere}
use Rattle.java_scope.proofs.places.spot_at.Goals as goal

pub loop-at-init : goal.loop-at-init
loop-at-init c =
    ap (λ s. lead (java_rules (context c.args.unit.now)) (Some (spot s (seen c.root-node.result))) c.args.place.now) c.requires.empty
    ∙ ap (λ n. lead (java_rules (context c.args.unit.now)) (Some (spot [] n)) c.args.place.now) c.root-node.ensures

pub loop-at-preserved : goal.loop-at-preserved
loop-at-preserved c =
    leads_on (context c.args.unit.now) c.args.place.now c.loop-at.at-index (get_or c.args.place.now c.loop-at.at-index 0) (spot c.loop-at.scope (seen c.loop-at.node))
    (Some (spot c.enter.new.scope (seen c.in-Some.next))) _ (search rules) refl
    (ap (option_map (spot_of c.enter.new.scope)) (sym c.in-Some.is) ∙ c.in_ok-found.ensures) c.loop-at.invariant

pub returns-in_default : goal.returns-in_default
returns-in_default c =
    sym (leads_nowhere (context c.args.unit.now) (drop (c.loop-at.at-index + 1) c.args.place.now))
    ∙ leads_on (context c.args.unit.now) c.args.place.now c.loop-at.at-index (get_or c.args.place.now c.loop-at.at-index 0) (spot c.loop-at.scope (seen c.loop-at.node))
    None _ (search rules) refl
    (ap (option_map (spot_of c.enter.new.scope)) (sym c.in_default.is) ∙ c.in_ok-found.ensures) c.loop-at.invariant
