use Rattle.std.proofs.Common.{◌≡◌, map, take}
use Rattle.java_model.specs.Grammar.Signs.{signs}
use Rattle.java_expr_reading.specs.Shapes.{shape_of}
use Rattle.java_expr_reading.proofs.marked.shapes_of.Given as goal

abbrev pub invariant-loop-token : goal.invariant-loop-token
invariant-loop-token l = l.shapes.items ≡ map shape_of (signs (take l.token-index l.tokens))
