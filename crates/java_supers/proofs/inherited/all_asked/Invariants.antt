use Rattle.std.proofs.Common.{◌≡◌, ◌++◌, drop}
use Rattle.std.specs.List.{flat_map}
use Rattle.java_model.specs.Names.TypeNames.{Ask}
use Rattle.java_resolve.specs.Occasions.{Occasion}
use Rattle.java_supers.proofs.inherited.all_asked.Given as goal

-- the members so far, and those of the types that are left
abbrev pub invariant-loop-t : goal.invariant-loop-t
invariant-loop-t g l = record {
  value : (a : Ask) → g.A.Asks.Fits l.asker a → l.members ++ flat_map (λ t. a t l.name) (drop l.t-index l.types) ≡ flat_map (λ t. a t l.name) l.types;
  grows : (a : Ask) → g.A.Asks.Fits l.asker a → g.A.Asks.Fits l.fn.asker a;
  keeps : (o : Occasion) → g.A.Asks.IsAt l.fn.asker o → g.A.Asks.IsAt l.asker o;
}
