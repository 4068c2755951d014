use Rattle.std.proofs.Common.{◌≡◌, drop}
use Rattle.java_model.specs.Names.Lists.{same_name}
use Rattle.java_jtypes.proofs.equality.same_name.Given as goal

-- what is left decides
abbrev pub invariant-loop-name : goal.invariant-loop-name
invariant-loop-name l = same_name (drop l.name-index l.left) l.others ≡ same_name l.left l.right
