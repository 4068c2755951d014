use Rattle.std.proofs.Common.{option_map, sym, ap, ◌∙◌}
use Rattle.java_scope.specs.Spots.{spot_of}
use Rattle.java_scope.proofs.places.type_at.Goals as goal

pub returns-in_default : goal.returns-in_default
returns-in_default c = sym (ap (option_map (spot_of c.spot_at.new.scope)) (sym c.in_default.is) ∙ c.in_ok-found.ensures)

pub returns : goal.returns
returns c = record {
  spot = spot_of c.spot_at.new.scope c.in-Some.node;
  leads = sym (ap (option_map (spot_of c.spot_at.new.scope)) (sym c.in-Some.is) ∙ c.in_ok-found.ensures);
  is = c.in_ok-t.ensures;
}
