use Rattle.std.proofs.Common.{◌≡◌, map, drop}
use Rattle.java_model.specs.Names.TypeNames.{Ask, types_within}
use Rattle.java_resolve.specs.Resolving.{bound_of}
use Rattle.java_resolve.specs.Occasions.{Occasion}
use Rattle.java_resolve.proofs.within.types_within.Given as goal

-- None of the bounds before gives any.
abbrev pub invariant-loop-bound : goal.invariant-loop-bound
invariant-loop-bound g l = record {
  value : (a : Ask) → g.A.Asks.Fits l.asker a → types_within l.env a l.name (map bound_of (drop l.bound-index l.bounds)) ≡ types_within l.env a l.name (map bound_of l.bounds);
  grows : (a : Ask) → g.A.Asks.Fits l.asker a → g.A.Asks.Fits l.fn.asker a;
  keeps : (o : Occasion) → g.A.Asks.IsAt l.fn.asker o → g.A.Asks.IsAt l.asker o;
}
