use Rattle.std.proofs.Common.{◌≡◌, ◌++◌, drop, map}
use Rattle.java_model.specs.Names.TypeNames.{Ask, resolve_by}
use Rattle.java_resolve.specs.Resolving.{scope_of}
use Rattle.java_resolve.specs.Occasions.{Occasion}
use Rattle.java_supers.proofs.supers.all_resolved.Given as goal

-- the types so far, and those of the names that are left
abbrev pub invariant-loop-name : goal.invariant-loop-name
invariant-loop-name g l = record {
  value : (a : Ask) → g.A.Asks.Fits l.asker a
      → l.types ++ map (resolve_by l.env a (scope_of l.outline l.bounds)) (drop l.name-index l.names) ≡ map (resolve_by l.env a (scope_of l.outline l.bounds)) l.names;
  grows : (a : Ask) → g.A.Asks.Fits l.asker a → g.A.Asks.Fits l.fn.asker a;
  keeps : (o : Occasion) → g.A.Asks.IsAt l.fn.asker o → g.A.Asks.IsAt l.asker o;
}
