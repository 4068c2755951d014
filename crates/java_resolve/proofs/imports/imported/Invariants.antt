use Rattle.std.proofs.Common.{◌≡◌, drop}
use Rattle.std.specs.List.{find}
use Rattle.java_model.specs.Names.TypeNames.{Ask, imports_name}
use Rattle.java_resolve.specs.Occasions.{Occasion}
use Rattle.java_resolve.proofs.imports.imported.Given as goal

-- None of the imports before is one of this name.
abbrev pub invariant-loop-import : goal.invariant-loop-import
invariant-loop-import g l = record {
  value : find (imports_name l.name) (drop l.import-index l.outline.imports) ≡ find (imports_name l.name) l.outline.imports;
  grows : (a : Ask) → g.A.Asks.Fits l.asker a → g.A.Asks.Fits l.fn.asker a;
  keeps : (o : Occasion) → g.A.Asks.IsAt l.fn.asker o → g.A.Asks.IsAt l.asker o;
}
