use Rattle.std.proofs.Common.{◌≡◌, drop}
use Rattle.java_model.specs.SearchPattern.NameMatch.{is_prefix}
use Rattle.search_pattern.proofs.same.is_prefix.Given as goal

abbrev pub invariant-loop-i : goal.invariant-loop-i
invariant-loop-i l = is_prefix l.case (drop l.i l.pattern) (drop l.i l.name) ≡ is_prefix l.case l.pattern l.name
