use Rattle.std.proofs.Common.{◌≡◌, ◌++◌, drop}
use Rattle.std.specs.List.{flat_map}
use Rattle.java_model.specs.Names.Supertypes.{anonymous_supers}
use Rattle.java_model.specs.Names.TypeNames.{Ask, resolve_by}
use Rattle.java_resolve.specs.Resolving.{scope_of}
use Rattle.java_resolve.specs.Occasions.{Occasion}
use Rattle.java_supers.proofs.supers.all_anonymous.Given as goal

-- the types so far, and those of the names that are left
abbrev pub invariant-loop-name : goal.invariant-loop-name
invariant-loop-name g l = record {
  value : (a : Ask) → g.A.Asks.Fits l.asker a
      → l.types ++ flat_map (λ n. anonymous_supers l.env (resolve_by l.env a (scope_of l.outline l.bounds) n)) (drop l.name-index l.names)
      ≡ flat_map (λ n. anonymous_supers l.env (resolve_by l.env a (scope_of l.outline l.bounds) n)) l.names;
  grows : (a : Ask) → g.A.Asks.Fits l.asker a → g.A.Asks.Fits l.fn.asker a;
  keeps : (o : Occasion) → g.A.Asks.IsAt l.fn.asker o → g.A.Asks.IsAt l.asker o;
}
