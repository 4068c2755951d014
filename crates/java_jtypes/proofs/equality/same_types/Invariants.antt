use Rattle.std.proofs.Common.{◌≡◌, drop}
use lib.Pointwise.{pointwise}
use Rattle.java_model.specs.Names.Types.{same_type}
use Rattle.java_jtypes.proofs.equality.same_types.Given as goal

-- what is left decides
abbrev pub invariant-loop-of : goal.invariant-loop-of
invariant-loop-of l = pointwise same_type (drop l.of-index l.left) l.others ≡ pointwise same_type l.left l.right
