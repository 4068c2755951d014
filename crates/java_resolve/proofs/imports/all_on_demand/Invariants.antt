use Rattle.std.proofs.Common.{◌≡◌, ◌++◌, drop}
use Rattle.std.specs.List.{flat_map}
use Rattle.java_model.specs.Names.TypeNames.{Ask, on_demand_by}
use Rattle.java_resolve.specs.Occasions.{Occasion}
use Rattle.java_resolve.proofs.imports.all_on_demand.Given as goal

-- the types so far, and those of what is left
abbrev pub invariant-loop-import : goal.invariant-loop-import
invariant-loop-import g l = record {
  value : (a : Ask) → g.A.Asks.Fits l.asker a
      → l.types ++ flat_map (on_demand_by l.env a l.name) (drop l.import-index l.imports) ≡ flat_map (on_demand_by l.env a l.name) l.imports;
  grows : (a : Ask) → g.A.Asks.Fits l.asker a → g.A.Asks.Fits l.fn.asker a;
  keeps : (o : Occasion) → g.A.Asks.IsAt l.fn.asker o → g.A.Asks.IsAt l.asker o;
}
