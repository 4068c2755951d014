use Rattle.std.proofs.Common.{◌≡◌, drop, take}
use Rattle.java_model.specs.Names.TypeNames.{Ask}
use Rattle.java_model.specs.Scopes.TypeNames.{kinds_from}
use Rattle.java_resolve.specs.Occasions.{Occasion}
use Rattle.java_resolve.proofs.kinds.kinds_from.Given as goal

-- what is left decides
abbrev pub invariant-loop-place : goal.invariant-loop-place
invariant-loop-place g l = record {
  value : (a : Ask) → g.A.Asks.Fits l.asker a
      → kinds_from l.env a l.meant.kinds l.meant.types (take l.place l.name) (drop l.place l.name) ≡ kinds_from l.env a l.fn.before.kinds l.fn.before.types (take l.from l.name) (drop l.from l.name);
  grows : (a : Ask) → g.A.Asks.Fits l.asker a → g.A.Asks.Fits l.fn.asker a;
  keeps : (o : Occasion) → g.A.Asks.IsAt l.fn.asker o → g.A.Asks.IsAt l.asker o;
}
