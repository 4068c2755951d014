use Rattle.std.proofs.Common.{◌≡◌, drop}
use Rattle.java_model.specs.Names.Overloads.{all_convert}
use Rattle.java_overload.proofs.choice.all_convert.Given as goal

-- what is left decides
abbrev pub invariant-loop-of : goal.invariant-loop-of
invariant-loop-of l = all_convert l.env (drop l.of-index l.from) l.others ≡ all_convert l.env l.from l.to
