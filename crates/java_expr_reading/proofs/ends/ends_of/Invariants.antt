use Rattle.std.proofs.Common.{◌≡◌, suc, List, length, map}
use Rattle.java_model.specs.Grammar.Signs.{Sign}
use Rattle.java_expr_reading.specs.Shapes.{shape_of}
use Rattle.java_expr_reading.specs.Marking.{AreEndsFrom}
use Rattle.java_expr_reading.proofs.EndLaws.{IsBounded}
use Rattle.java_expr_reading.proofs.ends.ends_of.Given as goal

abbrev pub invariant-loop-at : goal.invariant-loop-at
invariant-loop-at l = record {
  each_place : length l.ends.items ≡ suc (length l.shapes);
  bounded : IsBounded (length l.shapes) l.at l.ends.items;
  closes : (ts : List Sign) → map shape_of ts ≡ l.shapes → AreEndsFrom ts l.at l.ends.items;
}
